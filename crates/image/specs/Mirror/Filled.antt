-- A block of records that a closure stores, one after the other: its head put into zeros, the records behind that, and then its check.
use Rattle.std.specs.Prelude.{◌+◌, ◌*◌, ◌<◌, ◌≤◌, ◌≡◌}
use Rattle.std.specs.{Borrow.{MutBor}, Fn.{Shared}}
use Rattle.laws.specs.{Kit.{ℕ, zero, suc, refl, ◌∙◌, List, arith, length, replicate, sets, mul-le-mul_left}, Cat.{cat, length-cat}}
use Rattle.block.specs.{Block.{block_of, long}, Check.{check_of}, Limits.{block_bytes, payload_at, payload_bytes, check_at, edition_of}}
use Rattle.block.specs.Mirror.Block.{head, made, zeros-behind}
use Rattle.image.specs.Mirror.TableBytes.{one_more}

-- the closure is lent the block, and told where the record stands and which one it is
abbrev pub Given : Type 0 → Type 1
Given F = Shared F (MutBor (List ℕ) × (ℕ × (ℕ × Unit {0}))) (Unit {0} × (MutBor (List ℕ) × Unit {0}))

module _ {F : Type 0} (g : Given F) (put : F) where
  -- so called for record j at place p, it may leave this of that
  pub record Puts (p j : ℕ) (old new : List ℕ) : Type 0 where
    pub lent : MutBor (List ℕ)
    pub left : MutBor (List ℕ)
    pub was : lent.now ≡ old
    pub is : left.now ≡ new
    pub met : g.post put (lent, (p, (j, tt))) (tt, (left, tt))

  -- the first n of w bytes, in turn
  unfoldable pub PutAll : ℕ → ℕ → List ℕ → List ℕ → Type 0
  PutAll w zero old new = new ≡ old
  PutAll w (suc n) old new = (mid : List ℕ) × (PutAll w n old mid × Puts (payload_at + w * n) n mid new)

  pub put-more : (w n : ℕ) (old mid new : List ℕ) → PutAll w n old mid → Puts (payload_at + w * n) n mid new → PutAll w (n + 1) old new
  unfolding PutAll
  put-more w n old mid new h k = let e : n + 1 ≡ suc n = omega arith in rw e (mid, (h, k))

  -- the block of kind c at place k, where a vector has ps places
  pub record Filled (ps c k w n : ℕ) (r : List ℕ) : Type 0 where
    pub headed : List ℕ
    pub full : List ℕ
    pub heads : headed ≡ sets (replicate block_bytes 0) 0 (head (edition_of ps) c k)
    pub puts : PutAll w n headed full
    pub seals : r ≡ sets full check_at (long (check_of full))

-- it is the block of the records f, of which those behind the last stored are zeros
module _ {F : Type 0} (g : Given F) (put : F) (f : ℕ → List ℕ) (w : ℕ) (l : (j : ℕ) → length (f j) ≡ w) where
  put_cat : (n : ℕ) (old new : List ℕ) → ((j : ℕ) (a b : MutBor (List ℕ)) → j < n → g.post put (a, (payload_at + w * j, (j, tt))) (tt, (b, tt)) → b.now ≡ sets a.now (payload_at + w * j) (f j))
      → PutAll g put w n old new → new ≡ sets old payload_at (cat f n)
  unfolding PutAll cat
  put_cat zero old new s h = h
  put_cat (suc n) old new s (mid, (h, k)) =
      let was = k.was in
      let is = k.is in
      let e : n + 1 ≡ suc n = omega arith in
      rw e at (one_more f w l old payload_at n (put_cat n old mid (λ j a b q. s j a b (omega arith)) h) refl refl (rw (was, is) at (s n k.lent k.left (omega arith) k.met)))

  pub filled_block : {ps c k n : ℕ} {r : List ℕ} (all : ℕ) → Filled g put ps c k w n r → n ≤ all → w * all ≤ payload_bytes
      → ((j : ℕ) (a b : MutBor (List ℕ)) → j < n → g.post put (a, (payload_at + w * j, (j, tt))) (tt, (b, tt)) → b.now ≡ sets a.now (payload_at + w * j) (f j))
      → ((j : ℕ) → n ≤ j → j < all → f j ≡ replicate w 0) → r ≡ block_of ps c k (cat f all)
  filled_block {ps} {c} {k} {n} all h few fits s z =
      made (edition_of ps) c k _ (omega (arith, length-cat f w l n, mul-le-mul_left w few, fits)) h.heads (put_cat n _ _ s h.puts) h.seals
      ∙ zeros-behind (edition_of ps) c k w n all f few l fits z
