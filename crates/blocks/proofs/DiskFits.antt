-- Sections of a disk of c blocks meet what the functions ask for of its bytes. Assumes nothing.
use mathlib.Core.Path.{◌≡◌, ap}
use Prim.Native.Nat.{◌*◌, ◌^◌, ◌≤◌, ℕ}
use native.Mathlib.Omega.{arith}
use Rattle.blocks.specs.DiskCode.{EntryFits, MergeFits}
use Rattle.layout.proofs.Lists.{each_imp}
use Rattle.layout.specs.Layout.{OnDisk}
use Rattle.layout.specs.Lists.{Each}
use Rattle.section.proofs.Lengths.{pow_lt_inv}
use Rattle.section.specs.Limits.{block_size, greatest_disk, greatest_height, height_count}
use Rattle.section.specs.Sections.{buddy_of, end_of}
use Rattle.section.specs.declared.Section.{Section}
use Rattle.piece_lists.specs.Few.{piece_places}
use Rattle.table.specs.Tables.{pieces_in}
use Rattle.table.specs.declared.Entry.{Entry}

height_fits : (c : ℕ) (s : Section) → c ≤ greatest_disk → OnDisk c s → s.height.value ≤ greatest_height
height_fits c s m o = let h = pow_lt_inv s.height.value height_count (omega (arith, o.within)) in omega arith

-- a file whose pieces are on the disk
pub entry_on_disk : (c : ℕ) (e : Entry) → c ≤ greatest_disk → e.pieces.count ≤ piece_places
    → Each (OnDisk c) (pieces_in e)
    → EntryFits (block_size * c) e
entry_on_disk c e m n o = record {
  count = n;
  pieces = each_imp (λ s p. record { height = height_fits c s m p; within = bytes s p.within }) o;
  disk = omega arith;
}
  where
    bytes : (s : Section) → end_of s ≤ c → block_size * end_of s ≤ block_size * c
    bytes s p = omega arith

-- two free sections of one height, of which the lower has its buddy on the disk
pub merge_on_disk : (c : ℕ) (l u : Section) → c ≤ greatest_disk → OnDisk c (buddy_of l) → OnDisk c u
    → u.height.value ≡ l.height.value → MergeFits (block_size * c) l u
merge_on_disk c l u m ob ou e = record {
  buddy = omega (arith, ob.within);
  upper = omega (arith, ou.within, ap (λ h. 2 ^ h) e);
  disk = omega arith;
}
