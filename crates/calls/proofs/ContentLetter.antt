-- The quality letter of a content's first page stands within a content of whole pages, and is the definition's. Assumes
-- nothing.
use mathlib.Core.Bool.{false}
use mathlib.Core.List.{List}
use mathlib.Core.Path.{◌≡◌, sym}
use Prim.Native.Nat.{◌<◌, ℕ}
use native.Mathlib.Omega.{arith}
use lib.ListN.{get_or, length}
use Rattle.manager.proofs.Contents.{paged_length}
use Rattle.manager.proofs.FirstPage.{content_letter}
use Rattle.manager.specs.Conditions.{unpaged}
use Rattle.manager.specs.Disk.{cut_pages, page_count}
use Rattle.quality.specs.Letters.{first_letter, letter_place}

module _ (bs : List ℕ) (paged : unpaged bs ≡ false) where
  pub letter_in_content : letter_place < length bs
  letter_in_content = let p = paged_length bs paged in omega (arith, p.0, p.1)

  pub letter_of_content : get_or bs letter_place 0 ≡ first_letter (cut_pages (page_count bs) bs)
  letter_of_content = sym (content_letter (page_count bs) bs (paged_length bs paged).0)
