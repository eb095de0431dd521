-- A sound layout whose file has as many breaks as any file of its length can have. Definitions only.
use Rattle.std.specs.Prelude.{◌≡◌, ◌-◌, ℕ}
use Rattle.std.specs.Int.Count.{ones}
use Rattle.layout.specs.Layout.{File, Layout, breaks_of, file_blocks, find_file, found}
use Rattle.layout.specs.Sound.{Sound}

-- with heights below k a file of n blocks can have the ones of n less one as its breaks
pub record LimitReached (k n : ℕ) : Type 0 where
  pub layout : Layout
  -- it keeps the rules, with heights below k
  pub rules : Sound k layout
  pub file : File
  -- the layout has it under the id 1
  pub there : find_file 1 layout.files ≡ found file
  -- it has n blocks
  pub blocks : file_blocks file ≡ n
  -- and the ones of n less one as its breaks
  pub breaks : breaks_of file.pieces ≡ ones n - 1
