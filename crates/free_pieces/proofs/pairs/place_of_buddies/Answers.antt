-- `place_of_buddies` meets its contract: it looks at every two pieces side by side. Assumes nothing.
use Rattle.std.proofs.Common.{◌≡◌, rules}
use Rattle.std.specs.Slice.Iter.{windows_size}
use Rattle.free_pieces.proofs.pairs.place_of_buddies.Goals as goal

pub returns : goal.returns
returns c = let two : windows_size c.windows.result ≡ 2 = c.windows.ensures.size in search rules
