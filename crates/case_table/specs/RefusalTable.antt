-- The refusals of every call by literal lengths, one byte off on both sides, and pairs of refusals that apply
-- together, of which the lowest number is returned, or for a replacement the first in its order, written out by hand.
-- Definitions only.
use Rattle.std.specs.Prelude.{List, [], ◌++◌, ◌∷◌, map, ◌-◌, suc, zero, ℕ, length, replicate}
use Rattle.case_table.specs.CaseBytes.{used_in_large_seven, used_in_seven}
use Rattle.case_table.specs.CaseRows.{filled_blocks, other_numbers, unwritten}
use Rattle.case_table.specs.RefusalRows.{Refusal, RefusalRow, format_gives, gives}
use Rattle.manager.specs.Call.{Call, add, breaks, check, free, read, remove, replace, which}

-- a catalogue and a disk, and the calls that are refused on them
abbrev row : List ℕ → List ℕ → List Refusal → RefusalRow
row cat d l = record { catalogue = cat; disk = d; refusals = l }

-- n bytes that start with the used ones; the rest are zero
abbrev pub filled_up : ℕ → List ℕ → List ℕ
filled_up n used = used ++ replicate (n - length used) 0

-- n bytes with a last one that is not zero
abbrev one_byte_more : ℕ → List ℕ → List ℕ
one_byte_more n used = filled_up (n - 1) used ++ 1 ∷ []

-- a disk of 16 blocks, none with one of the four quality letters; and one that has M in every block
abbrev sixteen : List ℕ
sixteen = filled_blocks 0 16

abbrev sixteen_with_m : List ℕ
sixteen_with_m = replicate 8192 77

-- ---- the calls

-- calls that get the disk and are answered after case 7, where id 2 has two pages, id 9 one, and 13 blocks are free; a
-- new content has 82, 68, 81 or 77 in all bytes, for R, D, Q and M, or the byte of `unwritten`, which is none of them
abbrev disk_calls : List Call
disk_calls = add 7 (unwritten 512) ∷ remove 2 ∷ replace 2 (replicate 512 82) ∷ read 2 0 (unwritten 512) ∷ check ∷ []

-- and those that get the catalogue alone: a call of each kind
abbrev plain_calls : List Call
plain_calls = breaks 2 ∷ which 14 (other_numbers 64) ∷ free ∷ disk_calls

-- calls that get the disk, and that are refused with 5 to 12 on the right buffers
abbrev wrong_calls : List Call
wrong_calls =
    add 0 [] ∷ add 2 [] ∷ add 3 (unwritten 511) ∷ add 3 (unwritten 7168) ∷ remove 0 ∷ remove 3 ∷ read 0 0 []
    ∷ read 3 0 [] ∷ read 2 0 (unwritten 513) ∷ read 2 2 (unwritten 512) ∷ replace 0 [] ∷ replace 3 []
    ∷ replace 2 (replicate 513 82) ∷ replace 2 (unwritten 512) ∷ replace 2 (replicate 8192 82) ∷ []

-- these; those that get the catalogue alone and are refused with 5, 8 and 14 on the right one; free and check
abbrev mixed_calls : List Call
mixed_calls =
    wrong_calls ++ breaks 0 ∷ which 0 [] ∷ which 0 (other_numbers 64) ∷ which 14 (other_numbers 63) ∷ free ∷ check ∷ []

-- all of these give the same number
abbrev all : ℕ → List Call → List Refusal
all n l = map (λ c. gives c n) l

-- ---- the rows of a version

-- how long the catalogue is, and the used bytes of three: after case 7, and with 63 and 64 files of one block on 66
-- blocks
pub record Catalogues : Type 0 where
  pub bytes : ℕ
  pub seven : List ℕ
  pub one_less : List ℕ
  pub full : List ℕ

-- disks that format refuses, whatever bytes the catalogue has
abbrev format_rows : Catalogues → List RefusalRow
format_rows c =
    map (λ n. row (unwritten c.bytes) (unwritten n) (format_gives 2 ∷ []))
    (0 ∷ 1 ∷ 511 ∷ 513 ∷ 1023 ∷ 1025 ∷ 8191 ∷ 8193 ∷ [])

-- a catalogue that is not sound
abbrev unsound_row : Catalogues → RefusalRow
unsound_row c = row (one_byte_more c.bytes c.seven) sixteen (all 3 plain_calls)

-- disks of other lengths than 16 blocks
abbrev disk_rows : Catalogues → List ℕ → List RefusalRow
disk_rows c lengths = map (λ n. row (filled_up c.bytes c.seven) (unwritten n) (all 4 disk_calls)) lengths

-- arguments that are refused on the right buffers
abbrev argument_row : Catalogues → RefusalRow
argument_row c =
    row (filled_up c.bytes c.seven) sixteen
    (all 5 (add 0 (unwritten 512) ∷ remove 0 ∷ replace 0 (replicate 512 82) ∷ read 0 0 (unwritten 512) ∷ breaks 0 ∷ [])
    ++ all 6 (remove 3 ∷ replace 3 (replicate 512 82) ∷ read 3 0 (unwritten 512) ∷ breaks 3 ∷ [])
    ++ all 7 (add 2 (unwritten 512) ∷ [])
    ++ all 8
    (add 3 (unwritten 511) ∷ add 3 (unwritten 513) ∷ replace 2 (replicate 511 82) ∷ replace 2 (replicate 513 82)
    ∷ read 2 0 (unwritten 511) ∷ read 2 0 (unwritten 513) ∷ which 0 (other_numbers 64) ∷ [])
    ++ all 9 (read 2 2 (unwritten 512) ∷ read 2 1 (unwritten 1024) ∷ read 9 0 (unwritten 1024) ∷ [])
    ++ all 11 (add 3 (unwritten 7168) ∷ replace 2 (replicate 8192 82) ∷ [])
    ++ all 12 (replace 2 (unwritten 512) ∷ [])
    ++ all 14 (map (λ k. which 14 (other_numbers k)) (0 ∷ 1 ∷ 63 ∷ 65 ∷ 128 ∷ [])))

-- letters that do not rank above M
abbrev letter_row : Catalogues → RefusalRow
letter_row c =
    row (filled_up c.bytes c.seven) sixteen_with_m
    (all 13
    (replace 2 (replicate 512 82) ∷ replace 2 (replicate 512 68) ∷ replace 9 (replicate 512 81)
    ∷ replace 9 (replicate 512 77) ∷ []))

-- 64 files, and 2 free blocks
abbrev full_rows : Catalogues → List RefusalRow
full_rows c =
    row (filled_up c.bytes c.full) (filled_blocks 0 66)
    (all 7 (add 64 (unwritten 512) ∷ [])
    ++ all 8 (add 65 [] ∷ add 65 (unwritten 511) ∷ [])
    ++ all 10 (add 65 (unwritten 512) ∷ add 65 (unwritten 1536) ∷ [])
    ++ all 11 (replace 64 (replicate 2048 82) ∷ []))
    ∷ row (filled_up c.bytes c.full) (filled_blocks 0 65) (all 4 (add 65 (unwritten 512) ∷ []))
    ∷ []

-- the rows that are computed in both versions
abbrev pub refusal_table : Catalogues → List RefusalRow
refusal_table c =
    unsound_row c ∷ argument_row c ∷ letter_row c ∷ (format_rows c ++ disk_rows c (8191 ∷ 8193 ∷ []) ++ full_rows c)

-- further disks, and where more than one refusal applies the lowest, or for a replacement the first in its order
abbrev pub order_table : Catalogues → List RefusalRow
order_table c =
    row (one_byte_more c.bytes c.seven) (unwritten 8191) (all 3 mixed_calls)
    ∷ row (filled_up c.bytes c.seven) (unwritten 8193) (all 4 wrong_calls)
    ∷ row (filled_up c.bytes c.seven) sixteen
    (all 5
    (add 0 [] ∷ add 0 (unwritten 7168) ∷ replace 0 [] ∷ replace 0 (unwritten 512) ∷ read 0 0 []
    ∷ read 0 9 (unwritten 512) ∷ [])
    ++ all 6
    (replace 3 [] ∷ replace 3 (unwritten 512) ∷ replace 3 (replicate 8704 82) ∷ read 3 0 []
    ∷ read 3 9 (unwritten 512) ∷ [])
    ++ all 7 (add 2 [] ∷ add 9 (unwritten 513) ∷ add 2 (unwritten 7168) ∷ [])
    ++ all 8
    (add 3 [] ∷ add 3 (unwritten 7169) ∷ replace 2 [] ∷ replace 2 (unwritten 513) ∷ replace 2 (replicate 8193 82)
    ∷ read 2 9 [] ∷ read 2 9 (unwritten 513) ∷ which 0 [] ∷ which 0 (other_numbers 63) ∷ [])
    ++ all 12 (replace 2 (unwritten 8192) ∷ []))
    ∷ row (filled_up c.bytes c.seven) sixteen_with_m
    (all 8 (replace 2 (replicate 513 82) ∷ [])
    ++ all 12 (replace 2 (unwritten 512) ∷ replace 2 (unwritten 8192) ∷ [])
    ++ all 13 (replace 2 (replicate 8192 81) ∷ replace 2 (replicate 8192 77) ∷ []))
    ∷ disk_rows c (0 ∷ 7680 ∷ 8704 ∷ [])

-- ---- the versions

-- the entries of n files of one block: id i + 1 at block i, and so on
abbrev small_entries : ℕ → ℕ → List ℕ
small_entries i zero = []
small_entries i (suc n) = 0 ∷ suc i ∷ 0 ∷ 1 ∷ 0 ∷ i ∷ 0 ∷ 1 ∷ small_entries (suc i) n

-- the same in the large catalogue
abbrev large_entries : ℕ → ℕ → List ℕ
large_entries i zero = []
large_entries i (suc n) =
    0 ∷ suc i ∷ 0 ∷ 0 ∷ 0 ∷ 1 ∷ 0 ∷ 0 ∷ 0 ∷ i ∷ 0 ∷ 0 ∷ 0 ∷ 1 ∷ large_entries (suc i) n

abbrev pub small : Catalogues
small =
    record {
      bytes = 4096;
      seven = used_in_seven;
      one_less = 0 ∷ 1 ∷ 0 ∷ 66 ∷ 0 ∷ 63 ∷ (small_entries 0 63 ++ 0 ∷ 63 ∷ 0 ∷ 1 ∷ 0 ∷ 64 ∷ 0 ∷ 2 ∷ []);
      full = 0 ∷ 1 ∷ 0 ∷ 66 ∷ 0 ∷ 64 ∷ (small_entries 0 64 ++ 0 ∷ 64 ∷ 0 ∷ 2 ∷ []);
    }

abbrev pub large : Catalogues
large =
    record {
      bytes = 16384;
      seven = used_in_large_seven;
      one_less =
          0 ∷ 2 ∷ 0 ∷ 0 ∷ 0 ∷ 66 ∷ 0 ∷ 63
          ∷ (large_entries 0 63
          ++ 0 ∷ 0 ∷ 0 ∷ 63 ∷ 0 ∷ 0 ∷ 0 ∷ 1 ∷ 0 ∷ 0 ∷ 0 ∷ 64 ∷ 0 ∷ 0 ∷ 0 ∷ 2 ∷ []);
      full =
          0 ∷ 2 ∷ 0 ∷ 0 ∷ 0 ∷ 66 ∷ 0 ∷ 64 ∷ (large_entries 0 64 ++ 0 ∷ 0 ∷ 0 ∷ 64 ∷ 0 ∷ 0 ∷ 0 ∷ 2 ∷ []);
    }

-- ---- catalogues of the length of no version

-- with everything else right, and with everything wrong
abbrev pub length_table : List RefusalRow
length_table =
    map (λ n. row (filled_up n used_in_seven) sixteen (format_gives 1 ∷ all 1 plain_calls)) (4095 ∷ 4097 ∷ [])
    ++ map (λ n. row (filled_up n used_in_large_seven) sixteen (format_gives 1 ∷ all 1 plain_calls)) (16383 ∷ 16385 ∷ [])
    ++ map (λ n. row (unwritten n) (unwritten 8191) (format_gives 1 ∷ all 1 mixed_calls))
    (0 ∷ 1 ∷ 4095 ∷ 4097 ∷ 16383 ∷ 16385 ∷ [])

-- ---- versions that do not suit the buffer

abbrev pub small_in_large : RefusalRow
small_in_large = row (filled_up 16384 used_in_seven) sixteen (all 3 plain_calls)

abbrev pub large_in_small : RefusalRow
large_in_small = row (filled_up 4096 used_in_large_seven) sixteen (all 3 plain_calls)
