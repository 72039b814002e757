-- `wsjtx_vectors::print_vector` is safe and ends: a line that is a vector has 162 symbols.
-- Assumes nothing.
use mathlib.Core.Path.{sym, ◌∙◌}
use Rattle.wsjtx_vectors.proofs.VectorLaws.{symbols_of_vector}
use Rattle.wsjtx_vectors.proofs.print_vector.Goals as goal

pub print_answers-requires : goal.print_answers-requires
print_answers-requires g c =
    symbols_of_vector c.args.line.now _ (sym c.read.ensures ∙ c.in-Some.is)
