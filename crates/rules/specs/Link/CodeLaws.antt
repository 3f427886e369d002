-- Laws that the code cites.
use Rattle.std.specs.Prelude.{◌+◌, ◌<◌, ◌≤◌, ◌≡◌, ◌&&◌}
use Rattle.std.specs.Prelude as std
use Rattle.std.specs.Option.{is_some}
use Rattle.laws.specs.Kit.{ℕ, zero, suc, refl, sym, ap, ◌∙◌, List}
use Rattle.laws.specs.{Kit.{Option, none, some, Bool, true, false, not, arith, get_or}, Loop.{pick}}
use Rattle.laws.specs.{Says.{apart}}
use Rattle.machine.specs.{Steps.{is_none, begins}, Table.{most_writes}}
use Rattle.clock.specs.Vectors.{places}
use Rattle.machine.specs.Table as machine
use Rattle.table.specs.{EntryNames.{named_at, FoundIn, found_at}}
use Rattle.table.specs.{Model.{opens_m}, Link.OpensModel.{opens_not, found_none}, declared.Desk.{Desk}, declared.Open.{Open}}
use Rattle.rules.specs.{Mirror.Test.{has, owns, ranges_test, sizes_test}, Link.PassesToRules.{Fit}}

-- what a search by name says
module _ (os : List Open) (u k : ℕ) (r : std.Option ℕ) (f : FoundIn (named_at os u k) r) where
  pub has-yes : (e : ℕ) → r ≡ std.Some e → true ≡ has os u k
  has-yes e q = let g = found_at (named_at os u k) r e f q in held (opens_m os u k) refl
    where
      held : (o : Option machine.Open) → opens_m os u k ≡ o → true ≡ not (is_none o)
      held none z = apart (named_at os u k e) (found_at (named_at os u k) r e f q).1 (opens_not os u k z e (found_at (named_at os u k) r e f q).0)
      held (some w) z = refl

  pub has_no : r ≡ std.None → false ≡ has os u k
  has_no q = sym (ap (λ (o : Option machine.Open). not (is_none o)) (found_none os u k r f q))

pub has_is : (os : List Open) (u k : ℕ) (r : std.Option ℕ) → FoundIn (named_at os u k) r → is_some r ≡ has os u k
has_is os u k (std.Some e) f = has-yes os u k (std.Some e) f e refl
has_is os u k std.None f = has_no os u k std.None f refl

-- an entry in range has a writer within n
pub writer-within : (n m : ℕ) (o : Open) → (ranges_test n m o).passes ≡ true → o.writer ≤ n
writer-within n m o e = ((ranges_test n m o).says.to e).0

pub desks-within : (n m : ℕ) → begins n m ≡ true → n ≤ places
desks-within n m e = ((sizes_test n m).says.to e).0.1

pub fit_of : (own : List ℕ) (ds : List Desk) → own ≡ owns ds → ((t : ℕ) → get_or own t 0 ≤ most_writes) → Fit ds
fit_of own ds e h zero = omega arith
fit_of own ds e h (suc t) = rw e at (h t)

-- two tests, each by what it is; and the second only where l holds
pub and_is : {r a b c d : Bool} → r ≡ a && b → a ≡ c → b ≡ d → r ≡ c && d
and_is p q s = cc

pub given_yes : {r a b c d l : Bool} → r ≡ a && b → a ≡ c → b ≡ d → l ≡ true → r ≡ c && pick l d true
given_yes p q s t = rw t (and_is p q s)

pub given-no : {r c l : Bool} (d : Bool) → r ≡ c → l ≡ false → r ≡ c && pick l d true
given-no {r} {c} d p t = rw t (p ∙ alone c)
  where
    alone : (b : Bool) → b ≡ b && true
    alone true = refl
    alone false = refl
