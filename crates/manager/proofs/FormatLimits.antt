-- The limits of a format by literal numbers: which lengths of the two buffers it takes. Assumes nothing.
use mathlib.Core.List.{List}
use mathlib.Core.Path.{◌≡◌}
use Prim.Native.Nat.{◌*◌, ℕ}
use native.Mathlib.Omega.{arith}
use lib.ListN.{length}
use Rattle.catalogue.proofs.Roomy.{each_one}
use Rattle.catalogue.specs.Version.{here, later, version1, version2}
use Rattle.catalogue.specs.declared.Version.{Version}
use Rattle.layout.specs.Lists.{done, more}
use Rattle.manager.proofs.ClaimWords.{claim_reaches_large, claim_reaches_small}
use Rattle.manager.proofs.FormatRefusals.{format_lowest_refusal}
use Rattle.manager.proofs.WholeList.{whole_list}
use Rattle.manager.specs.Conditions.{answered, refused}
use Rattle.manager.specs.Formatting.{NoVersion}
use Rattle.manager.specs.Outcomes.{format_outcome}

module _ (cat d : List ℕ) where
  -- a catalogue of another length than 4,096 and 16,384 bytes
  pub other_length : (length cat ≡ 4096 → ⊥) → (length cat ≡ 16384 → ⊥) → (format_outcome cat d).reply ≡ refused 1
  other_length small large = (format_lowest_refusal cat d).catalogue_length.1 none
    where
      none : NoVersion cat
      none v known e = each_one {P = λ (u : Version). length cat ≡ u.bytes → ⊥}
          (more small (more large done)) known e

  -- the small catalogue takes 1 to 4,096 blocks
  pub small_least : length cat ≡ 4096 → length d ≡ 512 → (format_outcome cat d).reply ≡ answered 1
  small_least c n = (claim_reaches_small whole_list 1 (omega arith) (omega arith) cat d c n).0

  pub small_most : length cat ≡ 4096 → length d ≡ 512 * 4096 → (format_outcome cat d).reply ≡ answered 4096
  small_most c n = (claim_reaches_small whole_list 4096 (omega arith) (omega arith) cat d c n).0

  pub small_past : length cat ≡ 4096 → length d ≡ 512 * 4097 → (format_outcome cat d).reply ≡ refused 2
  small_past c n =
      (format_lowest_refusal cat d).disk_length.1
      (version1, here, c, λ w. omega (arith, w.2, w.3))

  -- the large one 1 to 1,048,576
  pub large_least : length cat ≡ 16384 → length d ≡ 512 → (format_outcome cat d).reply ≡ answered 1
  large_least c n = (claim_reaches_large whole_list 1 (omega arith) (omega arith) cat d c n).0

  pub large_most : length cat ≡ 16384 → length d ≡ 512 * 1048576 → (format_outcome cat d).reply ≡ answered 1048576
  large_most c n = (claim_reaches_large whole_list 1048576 (omega arith) (omega arith) cat d c n).0

  pub large_past : length cat ≡ 16384 → length d ≡ 512 * 1048577 → (format_outcome cat d).reply ≡ refused 2
  large_past c n =
      (format_lowest_refusal cat d).disk_length.1
      (version2, later here, c, λ w. omega (arith, w.2, w.3))
