-- The table against its history, small step by small step.
use Rattle.std.specs.Prelude.{◌≡◌}
use Rattle.laws.specs.{Kit.{refl, sym, ap, subst, List, [], Memᴰ-not_nil, some, ℕ, suc, arith, length}, Ends.{no_cut}}
use Rattle.laws.specs.{Update.{upd2, upd_same, upd_other}, Says.{clash}}
use Rattle.machine.specs.{Table.{Name, name, held, done, Open, State, fresh}, Steps.{read, read_clock, still_open, mark, apply, hold}}
use Rattle.machine.specs.{Steps.{next_number, next_vector, raise, new_write, write}, Rules.{Frame, Rules}, History.{Event, write_at}}
use Rattle.machine.specs.History.{receive_at, apply_at, own_read, applied, latest_from, list_from}
use Rattle.machine.specs.Demand3.{Received, its_own, delivered}
use Rattle.machine.proofs.RulesKept.{ReadyAt, read-rules, ready-next}
use Rattle.machine.proofs.Order.{add, at_new}
use Rattle.machine.proofs.TableTraced.{Traced, origin_write, own-known}
use Rattle.machine.proofs.SmallSteps.{read_of, write_of, traced-read, traced-raise, new_origin, traced_receive, Due, traced-apply}
use Rattle.machine.proofs.SmallSteps.{traced-hold}
use Rattle.machine.proofs.MarksReceived.{Marked, received_less, marked-add, marks_put}
use Rattle.machine.proofs.MarksReceived.{marked_put, marked_receive}
use Rattle.machine.proofs.Ready.{still_is}

pub record Observed (s : State) (h : List Event) : Type 0 where
  pub traced : Traced s h
  pub marked : Marked s.opens h

pub observed_fresh : (n m : ℕ) → Observed (fresh n m) []
unfolding list_from latest_from
observed_fresh n m = record {
  traced = record {
    story = record {
      ordered = record {
        source = λ q i x v u k a. clash (cc);
        once = λ p q u k a. let b = a.at in clash (cc);
        numbered = λ u x v k earlier later q. absurd (no_cut earlier (write_at u x v k) later q);
      };
      written = λ i u k m. absurd (Memᴰ-not_nil m);
      once = λ i u k earlier later q. absurd (no_cut earlier (applied (name u k)) later q);
      latest = λ i p x v earlier later q. absurd (no_cut earlier (own_read p x v) later q);
      causes = record { writes = λ i b earlier later q. absurd (no_cut earlier b later q); reads = λ i b earlier later q. absurd (no_cut earlier b later q) };
    };
    clock = λ i t j one. (λ le. absurd (omega arith), λ k. let b = k.at in clash (cc));
    opens = λ u k w q. clash (cc);
    cell = λ i x v u w q. clash (cc);
    counts = λ i t j. (λ m. absurd (Memᴰ-not_nil m), λ b. absurd (omega arith));
    shows = λ i x. refl;
  };
  marked = record {
    sent = λ p i u k a. clash (cc);
    got = λ i u k m. absurd (Memᴰ-not_nil m);
    marks = λ u k w q. clash (cc);
  };
}

pub observed_read : {s : State} {h : List Event} → Rules s → Observed s h → (i x : ℕ) → Observed (read s i x) (add h (read_of s i x))
observed_read {s} {h} r b i x = record {
  traced = traced-read b.traced i x (rw (upd_same s.clock i (read_clock (s.clock i) (s.cell i x))) at ((read-rules r i x).frame.clocks.below i));
  marked = marked-add h (read_of s i x) b.marked (λ j u k q. clash (cc)) (λ j u k q. clash (cc));
}

module _ {s : State} {h : List Event} (f : Frame s) (b : Observed s h) (i x v : ℕ) where
  write-due : Due (raise s i) i i (next_number s i) (next_vector s i)
  write-due = record {
    number = upd_same (s.clock i) i (next_number s i);
    next = ap suc (sym (f.clocks.own i));
    rest = λ t ne. rw (upd_other (s.clock i) i (next_number s i) t ne) (f.clocks.below i t);
  }

  write-marked : Marked (upd2 s.opens i (next_number s i) (still_open s.setup.desks (mark (new_write s i x v) i done))) (add h (write_of s i x v))
  write-marked = record {
    sent = m.sent;
    got = m.got;
    marks = marks_put i i (next_number s i) done (new_write s i x v) (its_own refl) (λ z. omega arith) (still_open s.setup.desks (mark (new_write s i x v) i done))
        (still_is s.setup.desks (mark (new_write s i x v) i done)) (λ u' k' w' _ q. m.marks u' k' w' q)
        (λ j ne. record { not_yet = λ _ a. unsent j ne (received_less h (write_of s i x v) (λ q. clash (cc)) a); came = λ z. absurd (z refl) });
  }
    where
      m : Marked s.opens (add h (write_of s i x v))
      m = marked-add h (write_of s i x v) b.marked (λ j u k q. clash (cc)) (λ j u k q. clash (cc))

      unsent : (j : ℕ) → (j ≡ i → ⊥) → Received h j i (next_number s i) → ⊥
      unsent j ne (its_own q) = ne q
      unsent j ne (delivered p a) =
          let w = b.marked.sent p j i (next_number s i) a in
          let le = (own-known b.traced w.1).1 in
          omega arith

  pub observed_write : Observed (write s i x v) (add (add h (write_of s i x v)) (apply_at i (name i (next_number s i))))
  observed_write = record {
    traced = traced-apply (traced-raise b.traced i x v) i i (next_number s i) (new_write s i x v) (new_origin b.traced i x v) write-due;
    marked = marked-add (add h (write_of s i x v)) (apply_at i (name i (next_number s i))) write-marked (λ j u k q. clash (cc))
        (λ j u k q. its_own (let z : name i (next_number s i) ≡ name u k = cc in let y : i ≡ u = ap (λ (n : Name). n.writer) z in cc));
  }

-- a delivery held
pub observed_hold : {s : State} {h : List Event} → Observed s h → (i u k : ℕ) (w : Open) → s.opens u k ≡ some w → Observed (hold s i u k w) (add h (receive_at i (name u k)))
observed_hold {s} {h} b i u k w q =
    let g = b.traced.opens u k w q in
    record {
      traced = traced-hold (traced_receive b.traced i (name u k)) i u k w q;
      marked = marked_receive i u k held w (λ z. omega arith) (some (mark w i held)) (λ w' z. cc) b.marked q g.place (origin_write g);
    }

module _ {s : State} {h : List Event} {i u k : ℕ} {w : Open} (f : Frame s) (b : Observed s h) (y : ReadyAt s i u k w) where
  ready-due : Due s i u k w.vector
  ready-due = let n = ready-next f y in record { number = (f.open-write u k w y.is).number; next = n.next; rest = n.rest }

  -- a delivery applied
  pub observed_deliver : Observed (apply s i u k w) (add (add h (receive_at i (name u k))) (apply_at i (name u k)))
  observed_deliver =
      let g = b.traced.opens u k w y.is in
      let t = traced_receive b.traced i (name u k) in
      record {
        traced = traced-apply t i u k w (t.opens u k w y.is) ready-due;
        marked = marked-add (add h (receive_at i (name u k))) (apply_at i (name u k))
            (marked_receive i u k done w (λ z. omega arith) (still_open s.setup.desks (mark w i done)) (still_is s.setup.desks (mark w i done)) b.marked y.is g.place (origin_write g))
            (λ j u k q. clash (cc))
            (λ j u' k' q. delivered (length h) (let z : receive_at i (name u k) ≡ receive_at j (name u' k') = cc in rw (← z) (at_new h (receive_at i (name u k)))));
      }

  -- a write of the cascade
  pub observed_apply : w.marks i ≡ held → Observed (apply s i u k w) (add h (apply_at i (name u k)))
  observed_apply m =
      let got : Received h i u k = (b.marked.marks u k w y.is i).came (λ z. omega arith) in
      record {
        traced = traced-apply b.traced i u k w (b.traced.opens u k w y.is) ready-due;
        marked = marked-add h (apply_at i (name u k))
            (marked_put i u k done w got (λ z. omega arith) (still_open s.setup.desks (mark w i done)) (still_is s.setup.desks (mark w i done)) b.marked y.is)
            (λ j u k q. clash (cc))
            (λ j u' k' q.
            let ej : i ≡ j = cc in
            let z : name u k ≡ name u' k' = cc in
            rw (← ej) (subst (λ (n : Name). Received h i n.writer n.number) z got));
      }
