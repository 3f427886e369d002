-- A saved table is read back.
use Rattle.std.specs.Prelude.{◌+◌, ◌/◌, ◌%◌, ◌<◌, ◌≤◌, ◌≡◌, ◌&&◌}
use Rattle.laws.specs.Kit.{ℕ, suc, refl, sym, ap, ◌∙◌, fun_ext, true, false, not, List, []}
use Rattle.laws.specs.{Kit.{Option, none, some, arith, div-add-mod, mod-lt, eqb, get_or, replicate}, Loop.{cases}, Update.{same_or}}
use Rattle.laws.specs.{Says.{Says, says-eqb, apart, clash, says_both}, Tab.{tab, length-tab, get_or-tab}, FromOne.{from1-is}}
use Rattle.laws.specs.{Find.{FoundAt, first-is, first-not}, Cat.{part}, Each.{each_in, get_or-map_in}}
use Rattle.machine.specs.{Table.{Vec, zeros, Name, Cell, blank, set, Open, State, written}, Steps.{within, is_none, is_open}}
use Rattle.machine.specs.{Steps.{open_count}, Rules.{In, Below, Rules}, Within.{says-within}}
use Rattle.block.specs.{Block.{vector_words, length-words}, Limits.{Wide, wide_for, some-cells, some-opens, block_of_lem}}
use Rattle.block.specs.Limits.{vector_at, vector_bytes, after_vector, desk_bytes, open_bytes, cells_in, opens_in}
use Rattle.block.specs.Limits.{places_for, desks-placed}
use Rattle.image.specs.OpenNames.{names, no_name, OpenName}
use Rattle.image.proofs.OpenNames.{length-names, names_open, open-named}
use Rattle.image.specs.Encode.{bytes_of_desk, bytes_of_cell}
use Rattle.image.specs.{Encode.{bytes_of_open, open_named, cell_part, open_part, encode_at, encode}, Fields.{cell_read}}
use Rattle.image.specs.Fields.{open_read, writer_field, number_field, vec_words, cell_set, cell-blank, open-back, writer-back, number-back}
use Rattle.image.specs.Fields.{vector-part, rest_part}
use Rattle.image.proofs.FieldPlaces.{part_2, part_3, part_4}
use Rattle.image.specs.Decode.{desk_in_image, cell_in_image, entry_in_image, entries_in_image, bears, find_in, opens_in_image, decode_at, decode, Shows, n-back, m-back, count-back, issued-flat, open-name}

-- where a vector has ps places
module _ (ps : ℕ) where
  says-bears : (u k : ℕ) (l : List ℕ) → Says (bears ps u k l) ((writer_field l ≡ u) × (number_field ps l ≡ k))
  says-bears u k l = says_both (eqb (writer_field l) u) (eqb (number_field ps l) k) (says-eqb (writer_field l) u) (says-eqb (number_field ps l) k)

  module _ (wd : Wide ps) (s : State) (ok : Rules s) (few : s.setup.desks ≤ ps) where
    no_desk : (i : ℕ) → (1 ≤ i → i ≤ s.setup.desks → ⊥) → (t : ℕ) → s.applied i t ≡ 0
    no_desk i o t = same_or (s.applied i t) 0 (λ e. e) (λ e. absurd (let h = (ok.frame.counts.inside i t (omega arith)).0 in o h.0 h.1))

    -- the numbers at p of each desk, at most its counts
    desk-back : (p : ℕ) (v : ℕ → Vec) → p + vector_bytes ps ≤ desk_bytes ps → ((i : ℕ) → part p (vector_bytes ps) (bytes_of_desk ps i (s.applied i) (s.clock i)) ≡ vector_words ps (v i)) → ((i : ℕ) → Below (v i) (s.applied i)) → desk_in_image ps s.setup.desks (encode_at ps s) p ≡ v
    desk-back p v g at below =
        from1-is zeros s.setup.desks _ v
        (λ i h. rw (part_2 ps wd s i p (vector_bytes ps) h g, at (suc i)) (vec_words ps (v (suc i)) (issued-flat ps wd s ok few (v (suc i)) (λ t. omega (arith, below (suc i) t, ok.frame.counts.most (suc i) t)))))
        (λ i o. fun_ext (λ t. omega (arith, no_desk i o t, below i t)))

    pub applied_back : desk_in_image ps s.setup.desks (encode_at ps s) vector_at ≡ s.applied
    unfolding bytes_of_desk
    applied_back = desk-back vector_at s.applied (omega arith) (λ i. vector-part ps i 0 0 0 (s.applied i) (vector_words ps (s.clock i))) (λ i t. omega arith)

    pub clock-back : desk_in_image ps s.setup.desks (encode_at ps s) (after_vector ps) ≡ s.clock
    unfolding bytes_of_desk
    clock-back =
        desk-back (after_vector ps) s.clock (omega arith)
        (λ i. rest_part ps i 0 0 0 (s.applied i) (vector_words ps (s.clock i)) (vector_bytes ps) (length-words ps (s.clock i))) ok.frame.clocks.below

    one_cell : (i x : ℕ) (c : Cell) → s.cell i x ≡ c → cell_read ps (bytes_of_cell ps c) ≡ c
    one_cell i x blank e = cell-blank ps
    one_cell i x (set v u w) e =
        let h = ok.frame.cell i x v u w e in cell_set ps v u w h.writer_in.0 (issued-flat ps wd s ok few w h.issued)

    no_cell : (i x : ℕ) → ((In s.setup.desks i × In s.setup.cells x) → ⊥) → (c : Cell) → s.cell i x ≡ c → c ≡ blank
    no_cell i x o blank e = refl
    no_cell i x o (set v u w) e = let h = ok.frame.cell i x v u w e in absurd (o (h.desk, h.cell))

    pub cell-back : cell_in_image ps s.setup.desks s.setup.cells (encode_at ps s) ≡ s.cell
    unfolding cell_part
    cell-back =
        from1-is (λ x. blank) s.setup.desks _ s.cell
        (λ i hi. from1-is blank s.setup.cells _ (s.cell (suc i))
        (λ x hx.
        rw (part_3 ps wd s i (x / cells_in ps) (x % cells_in ps) hi (block_of_lem (cells_in ps) s.setup.cells x (some-cells ps wd) hx) (mod-lt x (some-cells ps wd)), div-add-mod x (cells_in ps)) (one_cell (suc i) (suc x) (s.cell (suc i) (suc x)) refl))
        (λ x o. no_cell (suc i) x (λ h. o h.1.0 h.1.1) (s.cell (suc i) x) refl))
        (λ i o. fun_ext (λ x. no_cell i x (λ h. o h.0.0 h.0.1) (s.cell i x) refl))

    pub entry-back : (p : ℕ) → p < open_count s → entry_in_image ps s.setup.desks s.setup.cells (encode_at ps s) p ≡ open_named ps s (get_or (names s) p no_name)
    unfolding open_part
    entry-back p h =
        rw (part_4 ps wd s (p / opens_in ps) (p % opens_in ps) (block_of_lem (opens_in ps) (open_count s) p (some-opens ps wd) h) (mod-lt p (some-opens ps wd)), div-add-mod p (opens_in ps))
        (get_or-map_in (open_named ps s) (names s) p no_name (replicate (open_bytes ps) 0) (omega (arith, length-names s)))

    shows_open : (u k : ℕ) (o : Option Open) → s.opens u k ≡ o → is_open s u k ≡ true → Shows ps s u k (bytes_of_open ps u o)
    shows_open u k none e t = clash (sym (ap (λ (o : Option Open). not (is_none o)) e) ∙ t)
    shows_open u k (some w) e t =
        let h = ok.frame.open-write u k w e in
        let f = issued-flat ps wd s ok few w.vector h.issued in
        record {
          writer = writer-back ps u w f;
          number = number-back ps u w f ∙ h.number;
          whole = ap some (open-back ps u w f (λ i l. ((h.marks_flat i l).0, omega (arith, (h.marks_flat i l).1, few)))) ∙ sym e;
        }

    pub shows-at : (p : ℕ) → p < open_count s → let w : Name = get_or (names s) p no_name in Shows ps s w.writer w.number (entry_in_image ps s.setup.desks s.setup.cells (encode_at ps s) p)
    shows-at p h =
        let w : Name = get_or (names s) p no_name in
        let o = each_in (OpenName s) (names s) no_name (names_open s) p (omega (arith, length-names s)) in
        rw (entry-back p h) (shows_open w.writer w.number (s.opens w.writer w.number) refl o.stands_open)

    same_name : (l : List ℕ) (v j u k : ℕ) (w : Open) → Shows ps s v j l → writer_field l ≡ u → number_field ps l ≡ k → w ≡ open_read ps l → some w ≡ s.opens u k
    same_name l v j u k w h a b e = let hw = h.writer in let hn = h.number in let hh = h.whole in cc

    -- the entries read
    abbrev entries : List (List ℕ)
    entries = tab (open_count s) (entry_in_image ps s.setup.desks s.setup.cells (encode_at ps s))

    at_entry : (p : ℕ) → p < open_count s → let w : Name = get_or (names s) p no_name in Shows ps s w.writer w.number (get_or entries p [])
    at_entry p h = rw (get_or-tab (entry_in_image ps s.setup.desks s.setup.cells (encode_at ps s)) (open_count s) p [] h) (shows-at p h)

    found-is : (u k : ℕ) (w : Open) → FoundAt (bears ps u k) (open_read ps) entries [] w → some w ≡ s.opens u k
    found-is u k w f =
        let h = at_entry f.at (omega (arith, f.small, length-tab (entry_in_image ps s.setup.desks s.setup.cells (encode_at ps s)) (open_count s))) in
        let b = (says-bears u k (get_or entries f.at [])).to f.passes in
        same_name (get_or entries f.at []) _ _ u k w h b.0 b.1 f.is

    none_is : (u k : ℕ) → find_in ps entries u k ≡ none → (o : Option Open) → s.opens u k ≡ o → none ≡ o
    none_is u k e none q = refl
    none_is u k e (some w) q =
        let p = open-named s u k (open-name ps wd s ok few u k (ap (λ (o : Option Open). not (is_none o)) q)) in
        let l : p.at < open_count s = omega (arith, p.small, length-names s) in
        let h : Shows ps s u k (get_or entries p.at []) = rw p.is at (at_entry p.at l) in
        apart (bears ps u k (get_or entries p.at []))
        ((says-bears u k (get_or entries p.at [])).from (h.writer, h.number))
        (first-not (bears ps u k) (open_read ps) [] entries e p.at (omega (arith, l, length-tab (entry_in_image ps s.setup.desks s.setup.cells (encode_at ps s)) (open_count s))))

    find_is : (u k : ℕ) (o : Option Open) → find_in ps entries u k ≡ o → o ≡ s.opens u k
    find_is u k none e = none_is u k e (s.opens u k) refl
    find_is u k (some w) e = found-is u k w (first-is (bears ps u k) (open_read ps) [] entries w e)

    -- each open write is found by its name, and no other is
    pub find_back : (u k : ℕ) → find_in ps (entries_in_image ps s.setup.desks s.setup.cells (encode_at ps s)) u k ≡ s.opens u k
    find_back u k = rw (count-back ps s) (find_is u k (find_in ps entries u k) refl)

    no_open : (u k : ℕ) → (within s.setup.desks u && within (written s u) k) ≡ false → (o : Option Open) → s.opens u k ≡ o → none ≡ o
    no_open u k e none q = refl
    no_open u k e (some w) q =
        let o = open-name ps wd s ok few u k (ap (λ (o : Option Open). not (is_none o)) q) in
        apart (within s.setup.desks u && within (written s u) k)
        ((says_both (within s.setup.desks u) (within (written s u) k) (says-within s.setup.desks u) (says-within (written s u) k)).from (o.writer_in, o.number_in)) e

    opens_back : opens_in_image ps s.setup.desks s.applied (entries_in_image ps s.setup.desks s.setup.cells (encode_at ps s)) ≡ s.opens
    opens_back =
        fun_ext (λ u. fun_ext (λ k. cases (within s.setup.desks u && within (written s u) k) (λ e. rw e (find_back u k)) (λ e. rw e (no_open u k e (s.opens u k) refl))))

    -- reading undoes saving
    pub read_back : decode_at ps (encode_at ps s) ≡ s
    unfolding decode_at
    read_back = rw (n-back ps s, m-back ps s, applied_back, clock-back, cell-back, opens_back)

-- decode undoes encode
pub decode-encode : (s : State) → Rules s → decode (encode s) ≡ s
decode-encode s ok =
    let n = s.setup.desks in
    rw (n-back (places_for n) s) (read_back (places_for n) (wide_for n) s ok (desks-placed n ok.frame.ranges.desks.1))

-- two tables that keep the rules and have one image are the same
pub one_table : (s t : State) → Rules s → Rules t → encode s ≡ encode t → s ≡ t
one_table s t hs ht e = sym (decode-encode s hs) ∙ ap decode e ∙ decode-encode t ht
