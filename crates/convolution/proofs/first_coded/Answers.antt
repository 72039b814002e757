-- `convolution::first_coded` meets its contract: the parity under the first mask.
-- Assumes nothing.
use Rattle.convolution.specs.Code.{first_mask}
use Rattle.convolution.proofs.first_coded.Goals as goal

pub returns : goal.returns
unfolding first_mask
returns c = c.masked_parity.ensures
