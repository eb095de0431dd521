-- Each call is its conditions in order, and past them what it does: one equation for each definition, which the other
-- laws cite. Assumes nothing.
use mathlib.Core.List.{List, []}
use mathlib.Core.Path.{◌≡◌, refl}
use Prim.Native.Nat.{ℕ}
use Rattle.catalogue.specs.Encoding.{encode}
use Rattle.catalogue.specs.Reading.{read_catalogue}
use Rattle.catalogue.specs.Version.{version_of}
use Rattle.catalogue.specs.declared.Version.{Version}
use Rattle.layout.specs.Layout.{fresh_layout}
use Rattle.manager.specs.Conditions.{add_conditions, answered, breaks_conditions, check_conditions, first_refusal}
use Rattle.manager.specs.Conditions.{format_conditions, free_conditions, outcome, read_conditions}
use Rattle.manager.specs.Conditions.{remove_conditions, replace_conditions, reply_unless, unless_refused}
use Rattle.manager.specs.Conditions.{which_conditions}
use Rattle.manager.specs.Disk.{page_count}
use Rattle.manager.specs.Outcomes.{add_in, breaks_in, check_in, do_add, do_breaks, do_check, do_free, do_read}
use Rattle.manager.specs.Outcomes.{do_remove, do_which, format_in, free_in, read_in, remove_in, remove_then_add}
use Rattle.manager.specs.Outcomes.{replace_outcome, which_in}
use Rattle.section.specs.Limits.{height_count}

module _ (v : Version) (cat : List ℕ) where
  pub format_in_is : (d : List ℕ)
      → format_in v cat d
      ≡ unless_refused (first_refusal (format_conditions v cat d)) cat d []
      (outcome (answered (page_count d)) (encode v (fresh_layout height_count (page_count d))) d [])
  unfolding format_in
  format_in_is d = refl

  pub add_in_is : (i : ℕ) (bs d : List ℕ)
      → add_in v i bs cat d
      ≡ unless_refused (first_refusal (add_conditions v i bs cat d)) cat d []
      (do_add v i bs cat d (read_catalogue v cat))
  unfolding add_in
  add_in_is i bs d = refl

  pub remove_in_is : (i : ℕ) (d : List ℕ)
      → remove_in v i cat d
      ≡ unless_refused (first_refusal (remove_conditions v i cat d)) cat d [] (do_remove v i cat d (read_catalogue v cat))
  unfolding remove_in
  remove_in_is i d = refl

  pub read_in_is : (i p : ℕ) (o d : List ℕ)
      → read_in v i p o cat d
      ≡ unless_refused (first_refusal (read_conditions v i p o cat d)) cat d o
      (do_read i p o cat d (read_catalogue v cat))
  unfolding read_in
  read_in_is i p o d = refl

  pub breaks_in_is : (i : ℕ)
      → breaks_in v i cat ≡ reply_unless (first_refusal (breaks_conditions v i cat)) (do_breaks i (read_catalogue v cat))
  unfolding breaks_in
  breaks_in_is i = refl

  pub which_in_is : (n : ℕ) (o d : List ℕ)
      → which_in v n o cat d
      ≡ unless_refused (first_refusal (which_conditions v n o cat)) cat d o (do_which n o cat d (read_catalogue v cat))
  unfolding which_in
  which_in_is n o d = refl

  pub free_in_is : free_in v cat ≡ reply_unless (first_refusal (free_conditions v cat)) (do_free (read_catalogue v cat))
  unfolding free_in
  free_in_is = refl

  pub check_in_is : (d : List ℕ)
      → check_in v cat d ≡ reply_unless (first_refusal (check_conditions v cat d)) (do_check (read_catalogue v cat))
  unfolding check_in
  check_in_is d = refl

pub replace_outcome_is : (cat : List ℕ) (i : ℕ) (bs d : List ℕ)
    → replace_outcome i bs cat d
    ≡ unless_refused (first_refusal (replace_conditions (version_of cat) i bs cat d)) cat d []
    (remove_then_add i bs cat d)
unfolding replace_outcome
replace_outcome_is cat i bs d = refl
