-- What is kept of a block stays right.
use Rattle.std.proofs.Common.{ℕ, ◌+◌, ◌/◌, ◌%◌, ◌≤◌, ◌≡◌, ◌∙◌, List, [], ◌∷◌, ◌++◌, Bool, true, false}
use Rattle.std.proofs.Common.{Some, None, length, refl, sym, ap, subst, arith}
use Rattle.std.specs.Prelude.{◌==◌, unwrap_or, if◌then◌else◌}
use Rattle.dpx_base.specs.declared.lanes.Lanes.{Lanes}
use Rattle.dpx_base.specs.declared.lanes.Lanes.TheVariants.{One, Two, Four}
use Rattle.dpx_base.specs.Lanes.{lanes_count}
use Rattle.dpx_grammar.specs.Accepted.{copies}
use Rattle.dpx_grammar.specs.Machine.{Place, ids}
use Rattle.dpx_grammar.specs.Parts.{Part, block}
use Rattle.dpx_parse.specs.Counts.{after, kept_ids}
use Rattle.dpx_parse.specs.Events.{event_told}
use Rattle.dpx_parse.specs.Faults.{AllStand, first_in, id_fault}
use Rattle.dpx_parse.specs.Stands.{told, is_live_at, AtPlace, Knows}
use Rattle.dpx_parse.specs.declared.counts.Counts.{Counts}
use Rattle.dpx_parse.specs.declared.event.Event.TheVariants as event
use Rattle.dpx_parse.specs.declared.state.Mark.{Mark}
use Rattle.dpx_parse.specs.declared.state.Mark.TheVariants.{Id}
use Rattle.dpx_parse.specs.declared.state.Mark.TheVariants.{Other}
use Rattle.dpx_parse.proofs.Bytes.{copies_new, copies_old}
use Rattle.dpx_parse.proofs.Bytes.{id_fault_more, first_more}
use Rattle.dpx_parse.proofs.Keeps.{Kept, longer_event, same_event}

-- ---- a block

ids_stand : (lanes : ℕ) (whole : List Part) (rows : List (List ℕ)) (n : ℕ) → AllStand lanes (told whole (ids rows n))
    → AllStand lanes whole × (id_fault (copies rows) ≡ None)
ids_stand lanes whole [] n h = (h, refl)
ids_stand lanes whole (r ∷ rows) n h = (h.1, h.0)

ids_knows : (lanes : ℕ) (c d : Counts) (whole : List Part) (rows more : List (List ℕ)) (n : ℕ) (now : Place)
    → d.attributes ≡ c.attributes → d.live ≡ c.live → d.lines ≡ c.lines → d.valids ≡ c.valids → d.bytes ≡ c.bytes
    → is_live_at now ≡ false → AtPlace lanes d now
    → Knows lanes c (told whole (ids rows n)) (ids rows n) → Knows lanes d (block more ∷ whole) now
ids_knows lanes c d whole [] more n now ea el en ev eb z at k = record {
  attributes = ea ∙ k.attributes;
  live = el ∙ k.live;
  live_at = k.live_at ∙ sym z;
  lines = λ a e. let o = k.lines a e in (en ∙ o.0, o.1, o.2, o.3);
  valids = λ a e l. let o = k.valids a e l in (ev ∙ o.0, o.1);
  room = ap length eb ∙ k.room;
  at = at;
}
ids_knows lanes c d whole (r ∷ rows) more n now ea el en ev eb z at k = record {
  attributes = ea ∙ k.attributes;
  live = el ∙ k.live;
  live_at = k.live_at ∙ sym z;
  lines = λ a e. let o = k.lines a e in (en ∙ o.0, o.1, o.2, o.3);
  valids = λ a e l. let o = k.valids a e l in (ev ∙ o.0, o.1);
  room = ap length eb ∙ k.room;
  at = at;
}

ids_event : (lanes : ℕ) (whole : List Part) (rows more : List (List ℕ)) (n : ℕ)
    → event_told lanes (told whole (ids rows n)) (block more ∷ whole) ≡ event.Nothing
ids_event lanes whole [] more n = longer_event lanes whole (block more)
ids_event lanes whole (r ∷ rows) more n = same_event lanes (block (r ∷ rows) ∷ whole) (block more ∷ whole) refl

abbrev id_mark : ℕ → Mark
id_mark n = if n % 3 == 0 then Id else Other

-- a row with copies
id_new : (lanes : ℕ) (c : Counts) (whole : List Part) (rows : List (List ℕ)) (n b : ℕ) (bytes : List ℕ) (now : Place)
    → length rows % 3 ≡ 0
    → is_live_at now ≡ false
    → ((d : Counts) → d.first ≡ first_in (copies (rows ++ (b ∷ bytes) ∷ [])) → AtPlace lanes d now)
    → Knows lanes c (told whole (ids rows n)) (ids rows n) → AllStand lanes (told whole (ids rows n))
    → Kept lanes c (told whole (ids rows n)) (block (rows ++ (b ∷ bytes) ∷ []) ∷ whole) now Id (b ∷ bytes)
id_new lanes c whole rows n b bytes now t z at k h =
    let s = ids_stand lanes whole rows n h in
    let f : id_fault (kept_ids c.first (b ∷ bytes)) ≡ id_fault (copies (rows ++ (b ∷ bytes) ∷ [])) =
    ap (λ o. id_fault (kept_ids o (b ∷ bytes))) k.at.3 ∙ sym (id_fault_more (copies rows) (b ∷ bytes) s.1)
    ∙ ap id_fault (sym (copies_new rows (b ∷ bytes) t)) in
    let g : Some (unwrap_or c.first b) ≡ first_in (copies (rows ++ (b ∷ bytes) ∷ [])) =
    ap (λ o. Some (unwrap_or o b)) k.at.3 ∙ sym (first_more (copies rows) b bytes)
    ∙ ap first_in (sym (copies_new rows (b ∷ bytes) t)) in
    record {
      fault = f;
      event = λ e. sym (ids_event lanes whole rows (rows ++ (b ∷ bytes) ∷ []) n);
      stand = λ e. (e, s.0);
      knows = λ e. ids_knows lanes c (after lanes c Id (b ∷ bytes)) whole rows
          (rows ++ (b ∷ bytes) ∷ []) n now refl refl refl refl refl z
          (at (after lanes c Id (b ∷ bytes)) g) k;
    }

-- a row without
id_old : (lanes : ℕ) (c : Counts) (whole : List Part) (rows : List (List ℕ)) (n : ℕ) (bytes : List ℕ) (now : Place)
    → 1 ≤ length rows % 3
    → is_live_at now ≡ false
    → ((d : Counts) → d.first ≡ first_in (copies (rows ++ bytes ∷ [])) → AtPlace lanes d now)
    → Knows lanes c (told whole (ids rows n)) (ids rows n) → AllStand lanes (told whole (ids rows n))
    → Kept lanes c (told whole (ids rows n)) (block (rows ++ bytes ∷ []) ∷ whole) now Other bytes
id_old lanes c whole rows n bytes now t z at k h =
    let s = ids_stand lanes whole rows n h in
    let o : copies (rows ++ bytes ∷ []) ≡ copies rows = copies_old rows bytes t in
    record {
      fault = sym (ap id_fault o ∙ s.1);
      event = λ e. sym (ids_event lanes whole rows (rows ++ bytes ∷ []) n);
      stand = λ e. (e, s.0);
      knows = λ e. ids_knows lanes c c whole rows (rows ++ bytes ∷ []) n now refl refl refl refl refl z
          (at c (k.at.3 ∙ ap first_in (sym o))) k;
    }

one_byte : (l : Lanes) (bytes : List ℕ) → length bytes ≡ lanes_count l → (b : ℕ) × (rest : List ℕ) × (bytes ≡ b ∷ rest)
one_byte One [] h = absurd (omega (arith, h))
one_byte Two [] h = absurd (omega (arith, h))
one_byte Four [] h = absurd (omega (arith, h))
one_byte l (b ∷ rest) h = (b, rest, refl)

new_row : (l : Lanes) (r n : ℕ) → r + n ≡ 12 / lanes_count l → n % 3 ≡ 0 → r % 3 ≡ 0
new_row One r n h e = omega (arith, h, e)
new_row Two r n h e = omega (arith, h, e)
new_row Four r n h e = omega (arith, h, e)

old_row : (l : Lanes) (r n : ℕ) → r + n ≡ 12 / lanes_count l → 1 ≤ n % 3 → 1 ≤ r % 3
old_row One r n h e = omega (arith, h, e)
old_row Two r n h e = omega (arith, h, e)
old_row Four r n h e = omega (arith, h, e)

pub id_kept : (l : Lanes) (c : Counts) (whole : List Part) (rows : List (List ℕ)) (n : ℕ) (bytes : List ℕ) (now : Place)
    → length bytes ≡ lanes_count l
    → is_live_at now ≡ false
    → ((d : Counts) → d.first ≡ first_in (copies (rows ++ bytes ∷ [])) → AtPlace (lanes_count l) d now)
    → Knows (lanes_count l) c (told whole (ids rows n)) (ids rows n)
    → AllStand (lanes_count l) (told whole (ids rows n))
    → Kept (lanes_count l) c (told whole (ids rows n)) (block (rows ++ bytes ∷ []) ∷ whole) now (id_mark n) bytes
id_kept l c whole rows n bytes now e z at k h = go (n % 3 == 0) refl
  where
    go : (v : Bool) → (n % 3 == 0) ≡ v → Kept (lanes_count l) c (told whole (ids rows n))
        (block (rows ++ bytes ∷ []) ∷ whole) now (if v then Id else Other) bytes
    go true q =
        let m : n % 3 ≡ 0 = grind arith in
        let t : length rows % 3 ≡ 0 = new_row l (length rows) n k.at.1 m in
        let b = one_byte l bytes e in
        subst (λ x. Kept (lanes_count l) c (told whole (ids rows n)) (block (rows ++ x ∷ []) ∷ whole) now Id x)
        (sym b.2)
        (id_new (lanes_count l) c whole rows n b.0 b.1 now t z
        (λ d f. at d (f ∙ ap (λ x. first_in (copies (rows ++ x ∷ []))) (sym b.2))) k h)
    go false q =
        let m : 1 ≤ n % 3 = grind arith in
        id_old (lanes_count l) c whole rows n bytes now (old_row l (length rows) n k.at.1 m) z at k h
