use Rattle.std.proofs.Common.{◌≡◌, ◌≤◌, ℕ, ◌+◌, ◌-◌, ◌++◌, List, length, take, ap, sym, subst, ◌∙◌, length-take-le, rules}
use Rattle.std.proofs.lemmas.List.{take-append-le}
use Rattle.std.proofs.Math.Seq.{take-append-add}
use Rattle.std.specs.Io.KnownBytes.{Consumes}
use Rattle.std.proofs.KnownBytes.{Consumes-trans}
use borrow.Rule.Slice.PartMut.{put_mid, post_of}
use Rattle.console.proofs.fill.Goals as goal

-- the front, and behind it what a read put there
front_more : (a k n : ℕ) (xs ys : List ℕ) → a ≤ length xs → n ≤ length ys → take (a + n) (put_mid a k xs ys) ≡ take a xs ++ take n ys
front_more a k n xs ys h g =
    ap (λ (m : ℕ). take (m + n) (put_mid a k xs ys)) (sym (length-take-le a xs h)) ∙ take-append-add (take a xs) (ys ++ post_of a k xs) n
    ∙ ap (λ (l : List ℕ). take a xs ++ l) (take-append-le n ys (post_of a k xs) g)

pub loop-n-preserved : goal.loop-n-preserved
loop-n-preserved g c =
    let i = c.loop-n.invariant in
    let r = c.in_ok-more.ensures in
    let e = front_more c.loop-n.n (length c.loop-n.buffer - c.loop-n.n) c.in_ok-more.more c.loop-n.buffer c.read.new.buf i.1 r.bound.0 in
    (search rules, search rules, subst (Consumes _ _) (sym e) (Consumes-trans _ _ _ _ _ i.2 r.bytes.0))
