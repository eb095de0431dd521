-- `gathered` meets its contract: each byte is put to the bits gathered so far by bitwise or. Assumes nothing.
use Rattle.std.proofs.Common.{refl}
use Rattle.std.proofs.lemmas.Iterator.{YieldsList-from_slice}
use Rattle.std.proofs.lemmas.Iterator.Consumers.{fold_from_yields_List}
use lib.Bits.{bit_or}
use Rattle.decoder.proofs.zeros.gathered.Goals as goal

pub returns : goal.returns
returns c =
    fold_from_yields_List _ bit_or 0 _ c.fold.ensures.ran (YieldsList-from_slice c.args.bytes.now cc)
    (λ a x b q k. (refl, assumption))
