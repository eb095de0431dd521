-- The disk's bytes: blocks, pages, and what storing and copying do to them. Definitions only.
use Rattle.std.specs.Prelude.{List, [], ◌∷◌, ◌++◌, map, ℕ, zero, suc, ◌+◌, ◌*◌, ◌/◌, length, take, drop}
use Rattle.section.specs.declared.Section.{Section}
use Rattle.section.specs.Limits.{block_size}
use Rattle.layout.specs.Layout.{blocks_of}
use Rattle.layout.specs.Removing.{Copy}

-- the bytes of block i
abbrev pub block : List ℕ → ℕ → List ℕ
block d i = take block_size (drop (block_size * i) d)

-- the disk with the bytes p in block i
abbrev pub store_block : List ℕ → ℕ → List ℕ → List ℕ
store_block d i p = take (block_size * i) d ++ (p ++ drop (block_size * i + block_size) d)

-- the contents of the blocks of pieces, in page order
unfoldable pub pages_on : List ℕ → List Section → List (List ℕ)
pages_on d l = map (block d) (blocks_of l)

-- the number of pages of a content or an output
abbrev pub page_count : List ℕ → ℕ
page_count bs = length bs / block_size

-- the first n pages of a content
unfoldable pub cut_pages : ℕ → List ℕ → List (List ℕ)
cut_pages zero bs = []
cut_pages (suc n) bs = take block_size bs ∷ cut_pages n (drop block_size bs)

-- pages one after another
unfoldable pub join_pages : List (List ℕ) → List ℕ
join_pages [] = []
join_pages (p ∷ l) = p ++ join_pages l

-- pages stored in blocks, one by one
unfoldable pub write_pages : List ℕ → List ℕ → List (List ℕ) → List ℕ
write_pages d [] ps = d
write_pages d (b ∷ bs) [] = d
write_pages d (b ∷ bs) (p ∷ ps) = write_pages (store_block d b p) bs ps

-- block copies made one by one
unfoldable pub run_copies : List ℕ → List Copy → List ℕ
run_copies d [] = d
run_copies d (c ∷ l) = run_copies (store_block d c.target (block d c.source)) l
