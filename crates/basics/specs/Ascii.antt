-- Text in ASCII, for definitions that name one.
use Rattle.std.specs.Prelude.{ℕ, List, [], ◌∷◌}
use Prim.Native.Char.{code}
use Prim.Native.String.{String, [] as empty, ◌∷◌ as ◌∷ˢ◌}

-- The bytes of a text in ASCII.
unfoldable pub bytes : String → List ℕ
bytes empty = []
bytes (c ∷ˢ text) = code c ∷ bytes text
