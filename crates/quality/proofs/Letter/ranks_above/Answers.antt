-- `Letter::ranks_above` meets its contract: the order of the ranks is that of their numbers. Assumes nothing.
use mathlib.Core.Bool.{Bool}
use mathlib.Core.Path.{◌≡◌, ◌∙◌, ap₂, refl}
use lib.Dec.{ltb}
use Rattle.std.specs.Ordering.{partial_lt}
use Rattle.std.specs.Option.{option_partial_cmp}
use Rattle.std.specs.Prelude.{Option, Some, None}
use Rattle.quality.specs.contracts.RankPartialOrd.TheImpl.{partial_cmp-value}
use Rattle.quality.specs.Letters.{rank_number}
use Rattle.quality.specs.declared.Rank.{Rank}
use Rattle.quality.specs.declared.Rank.TheVariants.{R, D, Q, M}
use Rattle.quality.proofs.Letter.ranks_above.Goals as goal

-- whether r ranks below q
abbrev below : Option Rank → Option Rank → Bool
below r q = partial_lt (option_partial_cmp partial_cmp-value.it) r q

by_number : (r q : Option Rank) → below r q ≡ ltb (rank_number r) (rank_number q)
by_number None None = refl
by_number None (Some R) = refl
by_number None (Some D) = refl
by_number None (Some Q) = refl
by_number None (Some M) = refl
by_number (Some R) None = refl
by_number (Some R) (Some R) = refl
by_number (Some R) (Some D) = refl
by_number (Some R) (Some Q) = refl
by_number (Some R) (Some M) = refl
by_number (Some D) None = refl
by_number (Some D) (Some R) = refl
by_number (Some D) (Some D) = refl
by_number (Some D) (Some Q) = refl
by_number (Some D) (Some M) = refl
by_number (Some Q) None = refl
by_number (Some Q) (Some R) = refl
by_number (Some Q) (Some D) = refl
by_number (Some Q) (Some Q) = refl
by_number (Some Q) (Some M) = refl
by_number (Some M) None = refl
by_number (Some M) (Some R) = refl
by_number (Some M) (Some D) = refl
by_number (Some M) (Some Q) = refl
by_number (Some M) (Some M) = refl

pub returns : goal.returns
returns c =
    let is : _ ≡ below c.rank.result c.rank-2.result = assumption in
    is ∙ by_number c.rank.result c.rank-2.result ∙ ap₂ ltb c.rank.ensures c.rank-2.ensures
