-- Layouts in literal numbers that break one rule of document 01 each and are not sound: a rule left out or weakened
-- lets one of them by. Heights are those of version 1. Assumes nothing. Some rules follow from others, so that no
-- layout breaks them alone: lengths that sum to n and are as many as the ones of n are distinct, pieces that are
-- apart on a disk of C blocks sum to at most C, and none is higher than the disk.
use mathlib.Core.List.{List, [], ◌∷◌}
use mathlib.Core.Logic.{inl, inr}
use mathlib.Core.Path.{refl}
use Prim.Native.Nat.{◌+◌, ◌<◌, ℕ}
use native.Mathlib.Omega.{arith}
use Rattle.layout.proofs.Lists.{each_head, each_tail}
use Rattle.layout.specs.Layout.{file_pieces}
use Rattle.layout.specs.Lists.{Pairwise, next}
use Rattle.section.specs.Sections.{Apart, section}
use Rattle.section.specs.declared.Section.{Section}
use Rattle.layout.specs.Cases.{file, singles, Unsound}

-- the first two of a list
two {κ} : {A : Type 0} {R : A → A → Type κ} {a b : A} {l : List A} → Pairwise R (a ∷ b ∷ l) → R a b
two (next e p) = each_head e

-- ---- the disk

-- C is 0
pub no_block_unsound : Unsound 0 [] []
no_block_unsound s = omega (arith, s.some_blocks)

-- C is 4,097: free (0,4096) (4096,1)
pub disk_too_long_unsound : Unsound 4097 [] (section 0 12 ∷ section 4096 0 ∷ [])
disk_too_long_unsound s = omega (arith, s.most_blocks)

-- ---- entries

-- 65 files
pub sixty_five_files_unsound : Unsound 65 (singles 1 0 65) []
unfolding singles
sixty_five_files_unsound s = omega (arith, s.most_files)

-- an id is 0
pub id_zero_unsound : Unsound 4 (file 0 (section 0 0 ∷ []) ∷ []) (section 1 0 ∷ section 2 1 ∷ [])
id_zero_unsound s = omega (arith, each_head s.least_id)

-- an id is 65,536
pub id_too_great_unsound : Unsound 4 (file 65536 (section 0 0 ∷ []) ∷ []) (section 1 0 ∷ section 2 1 ∷ [])
id_too_great_unsound s = omega (arith, each_head s.most_id)

-- the ids fall, and two are equal
pub ids_falling_unsound : Unsound 2 (file 2 (section 0 0 ∷ []) ∷ file 1 (section 1 0 ∷ []) ∷ []) []
ids_falling_unsound s = omega (arith, two s.ids_rise)

pub ids_equal_unsound : Unsound 2 (file 1 (section 0 0 ∷ []) ∷ file 1 (section 1 0 ∷ []) ∷ []) []
ids_equal_unsound s = omega (arith, two s.ids_rise)

-- n is 0
pub empty_file_unsound : Unsound 4 (file 1 [] ∷ []) (section 0 2 ∷ [])
empty_file_unsound s = omega (arith, each_head s.some_pages)

-- ---- pairs

-- a file's piece ends past C: (2,2) of 3 blocks; a free piece does
pub file_off_disk_unsound : Unsound 3 (file 1 (section 2 1 ∷ []) ∷ []) (section 0 0 ∷ [])
unfolding file_pieces
file_off_disk_unsound s = omega (arith, (each_head s.on_disk).within)

pub free_off_disk_unsound : Unsound 3 (file 1 (section 0 0 ∷ []) ∷ []) (section 2 1 ∷ [])
unfolding file_pieces
free_off_disk_unsound s = omega (arith, (each_head (each_tail s.on_disk)).within)

-- a file's first block is no multiple of its length: (1,2); a free piece's is not
pub file_unaligned_unsound : Unsound 3 (file 1 (section 1 1 ∷ []) ∷ []) (section 0 0 ∷ [])
unfolding file_pieces
file_unaligned_unsound s = omega (arith, (each_head s.on_disk).aligned)

pub free_unaligned_unsound : Unsound 3 (file 1 (section 0 0 ∷ []) ∷ []) (section 1 1 ∷ [])
unfolding file_pieces
free_unaligned_unsound s = omega (arith, (each_head (each_tail s.on_disk)).aligned)

-- ---- lengths

-- the shorter piece of a file stands first
pub shorter_first_unsound : Unsound 4 (file 1 (section 0 0 ∷ section 2 1 ∷ []) ∷ []) (section 1 0 ∷ [])
shorter_first_unsound s = omega (arith, two (each_head s.page_order))

-- two pieces of a file have one length, and n is 2, with a single 1
pub equal_lengths_unsound : Unsound 2 (file 1 (section 0 0 ∷ section 1 0 ∷ []) ∷ []) []
equal_lengths_unsound s = omega (arith, two (each_head s.page_order))

-- two free pieces have one length, and f is 2
pub equal_free_lengths_unsound :
    Unsound 4 (file 1 (section 1 0 ∷ []) ∷ file 2 (section 3 0 ∷ []) ∷ []) (section 0 0 ∷ section 2 0 ∷ [])
equal_free_lengths_unsound s = two s.free_distinct refl

-- the free pieces fall
pub free_falling_unsound : Unsound 4 (file 1 (section 0 0 ∷ []) ∷ []) (section 2 1 ∷ section 1 0 ∷ [])
free_falling_unsound s = omega (arith, two s.free_rise)

-- f is 6, the free lengths sum to 5: block 3 is in no piece
pub free_sum_unsound : Unsound 8 (file 1 (section 0 1 ∷ []) ∷ []) (section 2 0 ∷ section 4 2 ∷ [])
free_sum_unsound s = omega (arith, s.free_sum)

-- the n sum to 2, and C is 1
pub sum_past_disk_unsound : Unsound 1 (file 1 (section 0 0 ∷ []) ∷ file 2 (section 0 0 ∷ []) ∷ []) []
sum_past_disk_unsound s = omega (arith, s.pages_fit)

-- ---- blocks that are shared

-- where each begins before the other ends, the two are not apart
not-apart : (a n b m : ℕ) → a < b + m → b < a + n → Apart a n b m → ⊥
not-apart a n b m p q (inl r) = omega arith
not-apart a n b m p q (inr r) = omega arith

-- block 0 by two files
pub files_share_unsound :
    Unsound 4 (file 1 (section 0 0 ∷ []) ∷ file 2 (section 0 0 ∷ []) ∷ []) (section 2 1 ∷ [])
unfolding file_pieces
files_share_unsound s = not-apart 0 1 0 1 (omega arith) (omega arith) (two s.apart)

-- block 0 by two pieces of one file
pub file_shares_unsound : Unsound 4 (file 1 (section 0 1 ∷ section 0 0 ∷ []) ∷ []) (section 3 0 ∷ [])
unfolding file_pieces
file_shares_unsound s = not-apart 0 2 0 1 (omega arith) (omega arith) (two s.apart)

-- block 0 by a file and a free piece
pub free_shares_unsound : Unsound 4 (file 1 (section 0 0 ∷ []) ∷ []) (section 0 0 ∷ section 2 1 ∷ [])
unfolding file_pieces
free_shares_unsound s = not-apart 0 1 0 1 (omega arith) (omega arith) (two s.apart)

-- block 1 by two free pieces
pub free_share_unsound : Unsound 4 (file 1 (section 3 0 ∷ []) ∷ []) (section 0 1 ∷ section 1 0 ∷ [])
unfolding file_pieces
free_share_unsound s = not-apart 0 2 1 1 (omega arith) (omega arith) (two (tail s.apart))
  where
    tail : {R : Section → Section → Type 0} {a : Section} {l : List Section} → Pairwise R (a ∷ l) → Pairwise R l
    tail (next e p) = p

-- block 0 by two pieces that are not neighbours in the list
pub far_pieces_share_unsound :
    Unsound 8 (file 1 (section 0 0 ∷ []) ∷ file 2 (section 4 2 ∷ []) ∷ []) (section 0 0 ∷ section 2 1 ∷ [])
unfolding file_pieces
far_pieces_share_unsound s = not-apart 0 1 0 1 (omega arith) (omega arith) (third s.apart)
  where
    third : {R : Section → Section → Type 0} {a b c : Section} {l : List Section} → Pairwise R (a ∷ b ∷ c ∷ l) → R a c
    third (next e p) = each_head (each_tail e)
