use Rattle.std.proofs.Common.{rules}
use borrow.Author.Tests.{tests}
use Rattle.std.specs.List.{list_all}
use Rattle.std.proofs.lemmas.Iterator.{YieldsList-from_slice}
use Rattle.std.proofs.lemmas.Iterator.Search.{all_from_yields_List}
use Rattle.std.specs.Prelude.{◌≡◌, ◌∷◌}
use Rattle.laws.specs.{Kit.{refl, ◌∙◌, List, [], Bool}, Lists.{every}, Loop.{cases}}
use Rattle.machine.specs.Steps.{within}
use Rattle.steps.proofs.look.all_inside.Goals as goal

all-every : {A : Type 0} (p : A → Bool) (l : List A) → list_all p l ≡ every p l
unfolding every
all-every p [] = refl
all-every p (x ∷ l) = cases (p x) (λ e. rw (e, all-every p l, every)) (λ e. rw (e, every))

pub returns : goal.returns
returns c =
    all_from_yields_List (within c.args.m) _ _ c.all.result c.all.ensures.ran (YieldsList-from_slice c.args.list.now cc)
    (λ x b q k. search (rules, tests))
    ∙ all-every (within c.args.m) c.args.list.now
