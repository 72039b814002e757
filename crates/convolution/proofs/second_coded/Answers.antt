-- `convolution::second_coded` meets its contract: the parity under the second mask.
-- Assumes nothing.
use Rattle.convolution.specs.Code.{second_mask}
use Rattle.convolution.proofs.second_coded.Goals as goal

pub returns : goal.returns
unfolding second_mask
returns c = c.masked_parity.ensures
