-- Replacements computed from literal bytes with the small catalogue, so that their definition is pinned within this
-- crate: whole outcomes, each letter over each, byte 6 of the first page, every refusal and their order.
-- The bytes 82, 68, 81 and 77 are R, D, Q and M; 90 is another letter. Assumes nothing.
use mathlib.Core.List.{List, [], ◌++◌, ◌∷◌, map}
use mathlib.Core.Path.{◌≡◌, refl}
use Prim.Native.Nat.{ℕ}
use lib.ListN.{replicate}
use Rattle.manager.proofs.LiteralCases.{Refuses, blocks, bytes, computed, with_two, written}
use Rattle.manager.specs.Call.{replace}
use Rattle.manager.specs.Conditions.{Reply, answered, outcome, refused}
use Rattle.manager.specs.Outcomes.{perform}

-- a page whose byte 6 is y, and all others x
abbrev page : ℕ → ℕ → List ℕ
page x y = replicate 6 x ++ (y ∷ replicate 505 x)

-- ---- whole outcomes

-- five blocks: id 1 at (2,2), id 65,535 at (0,2) (4,1), nothing free
abbrev filled : List ℕ
filled =
    0 ∷ 1 ∷ 0 ∷ 5 ∷ 0 ∷ 2 ∷ 0 ∷ 1 ∷ 0 ∷ 2 ∷ 0 ∷ 2 ∷ 0 ∷ 2 ∷ 255 ∷ 255 ∷ 0 ∷ 3 ∷ 0 ∷ 0 ∷ 0 ∷ 2 ∷ 0 ∷ 4 ∷ 0 ∷ 1 ∷ []

-- id 1 at (2,1), id 65,535 at (0,2) (4,1), free (3,1)
abbrev shortened : List ℕ
shortened =
    0 ∷ 1 ∷ 0 ∷ 5 ∷ 0 ∷ 2 ∷ 0 ∷ 1 ∷ 0 ∷ 1 ∷ 0 ∷ 2 ∷ 0 ∷ 1 ∷ 255 ∷ 255 ∷ 0 ∷ 3 ∷ 0 ∷ 0 ∷ 0 ∷ 2 ∷ 0 ∷ 4 ∷ 0 ∷ 1
    ∷ 0 ∷ 3 ∷ 0 ∷ 1 ∷ []

-- the disk afterwards: the pages of id 65,535 are 32, 33 and 34, and p is the first page of id 1
abbrev disk_with : List ℕ → List ℕ
disk_with p = blocks (32 ∷ 33 ∷ []) ++ (p ++ blocks (35 ∷ 34 ∷ []))

-- from id 1 at (4,1), id 65,535 at (0,2) (2,1), free (3,1): one block by two, as many as f and the old n are; the
-- removal copies block 2 to 4, and the pages go to 2 and 3. Then two by one, which copies nothing and frees block 3
pub replacements_computed :
    (perform (replace 1 (page 0 82 ++ blocks (35 ∷ []))) (bytes 4096 with_two) written
    ∷ perform (replace 1 (page 1 68)) (bytes 4096 filled) (disk_with (page 0 82))
    ∷ [])
    ≡ outcome (answered 1) (bytes 4096 filled) (disk_with (page 0 82)) []
    ∷ outcome (answered 0) (bytes 4096 shortened) (disk_with (page 1 68)) []
    ∷ []
unfolding computed
replacements_computed = refl

-- ---- letters

-- the replies to R, D, Q, M and another letter in place of the letter x, on a disk of one block, which id 1 has; all
-- other bytes of the stored page are M, and those of the new one R
abbrev over : ℕ → List Reply
over x =
    map (λ y. (perform (replace 1 (page 82 y))
    (bytes 4096 (0 ∷ 1 ∷ 0 ∷ 1 ∷ 0 ∷ 1 ∷ 0 ∷ 1 ∷ 0 ∷ 1 ∷ 0 ∷ 0 ∷ 0 ∷ 1 ∷ [])) (page 77 x)).reply)
    (82 ∷ 68 ∷ 81 ∷ 77 ∷ 90 ∷ [])

pub letters_compared :
    map over (82 ∷ 68 ∷ 81 ∷ 77 ∷ 90 ∷ [])
    ≡ (refused 13 ∷ answered 0 ∷ answered 0 ∷ answered 0 ∷ refused 12 ∷ [])
    ∷ (refused 13 ∷ refused 13 ∷ answered 0 ∷ answered 0 ∷ refused 12 ∷ [])
    ∷ (refused 13 ∷ refused 13 ∷ refused 13 ∷ answered 0 ∷ refused 12 ∷ [])
    ∷ (refused 13 ∷ refused 13 ∷ refused 13 ∷ refused 13 ∷ refused 12 ∷ [])
    ∷ (answered 0 ∷ answered 0 ∷ answered 0 ∷ answered 0 ∷ refused 12 ∷ [])
    ∷ []
unfolding computed
letters_compared = refl

-- four blocks: id 1 at (0,1), id 2 at (2,2) (1,1). Its first page is block 2, and its last is block 1, that of its
-- first pair. With Q in block 1 and R in block 2 it is replaced by D, and with R in block 1 and Q in block 2 it is not
pub first_page_compared :
    map
    (λ d. (perform (replace 2 (replicate 512 68))
    (bytes 4096 (0 ∷ 1 ∷ 0 ∷ 4 ∷ 0 ∷ 2 ∷ 0 ∷ 1 ∷ 0 ∷ 1 ∷ 0 ∷ 0 ∷ 0 ∷ 1
    ∷ 0 ∷ 2 ∷ 0 ∷ 3 ∷ 0 ∷ 1 ∷ 0 ∷ 1 ∷ 0 ∷ 2 ∷ 0 ∷ 2 ∷ [])) (blocks d)).reply)
    ((0 ∷ 81 ∷ 82 ∷ 0 ∷ []) ∷ (0 ∷ 82 ∷ 81 ∷ 0 ∷ []) ∷ [])
    ≡ answered 0 ∷ refused 13 ∷ []
unfolding computed
first_page_compared = refl

-- ---- refusals

-- on id 1 at (4,1), id 65,535 at (0,2) (2,1), free (3,1): id 0; an id that is not there; contents of 0, 6, 7, 511, 513
-- and 1,537 bytes; letters outside the four, also if the content is too long; and 3 blocks for id 1, and 5 for id
-- 65,535, one more than f and the old n are
pub replacements_refused :
    Refuses (bytes 4096 with_two) written 5 (replace 0 [] ∷ replace 0 (replicate 512 82) ∷ [])
    × Refuses (bytes 4096 with_two) written 6 (replace 3 [] ∷ replace 3 (replicate 512 82) ∷ [])
    × Refuses (bytes 4096 with_two) written 8
    (replace 1 [] ∷ replace 1 (replicate 6 90) ∷ replace 1 (replicate 7 82) ∷ replace 1 (replicate 511 82)
    ∷ replace 1 (replicate 513 90) ∷ replace 1 (replicate 1537 82) ∷ [])
    × Refuses (bytes 4096 with_two) written 12 (replace 1 (replicate 512 90) ∷ replace 1 (replicate 1536 90) ∷ [])
    × Refuses (bytes 4096 with_two) written 11
    (replace 1 (replicate 1536 82) ∷ replace 65535 (replicate 2560 82) ∷ [])
unfolding computed
replacements_refused = (refl, refl, refl, refl, refl)

-- with D in id 1: a letter that does not rank above it gives 13, also if the content is too long; one outside the four
-- gives 12, and Q that is too long 11
pub letters_refused :
    Refuses (bytes 4096 with_two) (blocks (32 ∷ 33 ∷ 34 ∷ 255 ∷ 68 ∷ [])) 13
    (replace 1 (replicate 512 82) ∷ replace 1 (replicate 512 68) ∷ replace 1 (replicate 1536 82)
    ∷ replace 1 (replicate 1536 68) ∷ [])
    × Refuses (bytes 4096 with_two) (blocks (32 ∷ 33 ∷ 34 ∷ 255 ∷ 68 ∷ [])) 12
    (replace 1 (replicate 512 90) ∷ replace 1 (replicate 1536 90) ∷ [])
    × Refuses (bytes 4096 with_two) (blocks (32 ∷ 33 ∷ 34 ∷ 255 ∷ 68 ∷ [])) 11 (replace 1 (replicate 1536 81) ∷ [])
unfolding computed
letters_refused = (refl, refl, refl)
