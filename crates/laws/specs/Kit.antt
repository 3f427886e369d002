-- What the proofs use of the kit's own libraries, passed on as it is: one line to look a symbol up.
pub use Prim.Native.Char.{code}
pub use Rattle.std.specs.Prelude.{◌%◌, ◌*◌, ◌+◌, ◌-◌, ◌/◌, ◌<◌, ◌^◌, ◌≤◌, max, min, pred, suc, zero, ℕ, eqb, leb, ltb, drop, get_or, length, replicate, set, take, Bool, ◌&&◌, ◌||◌, false, not, true, [], ◌++◌, ◌∷◌, map, ◌↔◌, ◌≢◌, ◌⊎◌, ◌≡◌, refl}
pub use Prim.Native.String.{String}
pub use Rattle.std.proofs.Common.{below_more, rules, eq-eqb, eqb-true, le-leb, le-ltb, leb-false, leb-true, lt-ltb, ltb-false, ltb-true, ne_eqb, lit<, drop_of_length-le, length-append, length-drop, length-set, length-take, take-append-drop, drop_at, drop-cons, drop-drop, ext_get_or, get_or-append-add, get_or-drop, get_or-set_other, get_or-set_same, get_or-take, length-take-le, take_all, take-add, take_at, take-suc, take-take, append_assoc, append-nil, inl, inr, ⊎_elim, ◌∙◌, ap, subst, subst₂, sym, add-le-add, add-zero, div-add-mod', div-lt_iff_lt-mul, div-mul-le_self, eq-or-lt_of_le, le-div_iff_mul-le, le_of_suc-le-suc, le_refl, mod-eq_of_lt, mod-lt, mul-le-mul, mul-le-mul_left, mul-le-mul_right, not-suc-le-zero, pow-suc, suc-mul, zero-add, zero-lt-suc, add-one, arith}
pub use Rattle.std.proofs.lemmas.Bool.{eqb-false, lt-leb, not-false, not-true}
pub use Rattle.std.proofs.lemmas.Nat.{and_le_l, and_le_r}
pub use Rattle.std.specs.Int.Bits.{bit_and, bit_or, or_add_and}
pub use Rattle.std.proofs.Math.ListN.{get_or-append, get_or-eq_default, get_elem?}
pub use Rattle.std.proofs.lemmas.List.{length-map, length-replicate, replicate-append-replicate, drop-append-le, set_at, set_comm, set-get_or, take-append-le}
pub use Rattle.std.proofs.Math.Seq.{drop-append-add, drop-length, length-sets, take-append_seam, take-length}
pub use Rattle.std.proofs.lemmas.List.Edits.{sets, sets-eq}
pub use Rattle.std.proofs.Math.Bool.{and-false}
pub use mathlib.Core.List.Memᴰ.{append_cases as Memᴰ-append_cases}
pub use mathlib.Core.List.Memᴰ.{cases_cons as Memᴰ-cases_cons}
pub use mathlib.Core.List.Memᴰ.{eq_of_singleton as Memᴰ-eq_of_singleton}
pub use mathlib.Core.List.Memᴰ.{head as Memᴰ-head}
pub use mathlib.Core.List.{List, Memᴰ}
pub use mathlib.Core.List.Memᴰ.{append_left as Memᴰ-append_left}
pub use mathlib.Core.List.Memᴰ.{append_right as Memᴰ-append_right}
pub use mathlib.Core.List.Memᴰ.{cast as Memᴰ-cast}
pub use mathlib.Core.List.Memᴰ.{not-nil as Memᴰ-not_nil}
pub use mathlib.Core.List.Memᴰ.{tail as Memᴰ-tail}
pub use Rattle.std.proofs.Math.Logic.Iff.{symm as Iff-symm, trans as Iff-trans}
unfoldable pub use Rattle.std.proofs.Math.Option.{bind}
pub use Rattle.std.proofs.Math.Option.{Option, some-injective, none, some}
pub use Rattle.std.proofs.Math.Path.{fun_ext}
pub use Rattle.std.proofs.Math.Decide.{dec_le, dec_lt}
pub use Rattle.std.proofs.Math.Nat.{div-add-mod, div-eq_of_lt, lt-div-mul-add, mul-add-div, mul-add-mod_self_left, mul-div-le, one-le-pow, sub-zero}
