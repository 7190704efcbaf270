-- What is kept stays right, part by part.
use Rattle.std.proofs.Common.{ℕ, suc, ◌+◌, ◌*◌, ◌/◌, ◌≤◌, ◌≡◌, ◌∙◌, List, [], ◌∷◌, ◌++◌, Bool, true, false}
use Rattle.std.proofs.Common.{Option, Some, None, length, refl, sym, ap, subst, arith, cond, length-append}
use Rattle.std.specs.Prelude.{◌==◌, ◌&&◌, nat_le, is_some, if◌then◌else◌}
use Rattle.dpx_base.specs.declared.lanes.Lanes.{Lanes}
use Rattle.dpx_base.specs.declared.lanes.Lanes.TheVariants.{One, Two, Four}
use Rattle.dpx_base.specs.Lanes.{lanes_count}
use Rattle.dpx_msa.specs.declared.attributes.Attributes.{Attributes}
use Rattle.dpx_grammar.specs.Machine.{Place, blank, opened, numbers, packet, active}
use Rattle.dpx_grammar.specs.Parts.{Part, group, filler, secondary, stuffing, AreRows}
use Rattle.dpx_parse.specs.Bytes.{flat, put}
use Rattle.dpx_parse.specs.Counts.{after, fault_by, event_by, headed, with_row, one_more}
use Rattle.dpx_parse.specs.Events.{part_event, event_told}
use Rattle.dpx_parse.specs.Faults.{in_force, is_live, valids, lines, newest, AllStand, head_fault}
use Rattle.dpx_parse.specs.Stands.{is_live_at, AtPlace, Knows}
use Rattle.dpx_parse.specs.declared.counts.Counts.{Counts}
use Rattle.dpx_parse.specs.declared.event.Event.TheVariants as event
use Rattle.dpx_parse.specs.declared.state.Mark.{Mark}
use Rattle.dpx_parse.specs.declared.state.Mark.TheVariants.{Head, Opens, Number}
use Rattle.dpx_parse.specs.declared.state.Mark.TheVariants.{Other}
use Rattle.dpx_parse.proofs.Bytes.{put_length, put_take, flat_more, flat_length}

pub record Kept (lanes : ℕ) (c : Counts) (old new : List Part) (now : Place) (m : Mark) (bytes : List ℕ) : Type 0 where
  pub fault : fault_by lanes c m bytes ≡ newest lanes new
  pub event : newest lanes new ≡ None → event_by lanes c m bytes ≡ event_told lanes old new
  pub stand : newest lanes new ≡ None → AllStand lanes new
  pub knows : newest lanes new ≡ None → Knows lanes (after lanes c m bytes) new now

-- ---- events

pub longer_event : (lanes : ℕ) (old : List Part) (x : Part) → event_told lanes old (x ∷ old) ≡ part_event lanes old x
longer_event lanes old x = let z : suc (length old) == length old ≡ false = grind arith in rw z refl

pub same_event : (lanes : ℕ) (old new : List Part) → length new ≡ length old → event_told lanes old new ≡ event.Nothing
same_event lanes old new h = let z : length new == length old ≡ true = grind arith in rw z refl

pub none_newest : (lanes : ℕ) (parts : List Part) → AllStand lanes parts → newest lanes parts ≡ None
none_newest lanes [] h = refl
none_newest lanes (x ∷ parts) h = h.0

-- ---- nothing new is told

at_now : (lanes : ℕ) (c : Counts) (parts : List Part) (s now : Place) → Knows lanes c parts s
    → is_live_at s ≡ is_live_at now
    → AtPlace lanes c now → Knows lanes c parts now
at_now lanes c parts s now k e a =
    record {
      attributes = k.attributes;
      live = k.live;
      live_at = k.live_at ∙ e;
      lines = k.lines;
      valids = k.valids;
      room = k.room;
      at = a;
    }

pub stay : (lanes : ℕ) (c : Counts) (old : List Part) (s now : Place) (bytes : List ℕ) → Knows lanes c old s
    → AllStand lanes old
    → is_live_at s ≡ is_live_at now → AtPlace lanes c now → Kept lanes c old old now Other bytes
stay lanes c old s now bytes k h e a = record {
  fault = sym (none_newest lanes old h);
  event = λ n. sym (same_event lanes old old refl);
  stand = λ n. h;
  knows = λ n. at_now lanes c old s now k e a;
}

pub open_kept : (lanes b : ℕ) (c : Counts) (old : List Part) (bytes : List ℕ) → Knows lanes c old opened
    → AllStand lanes old
    → b ≡ 36 / lanes → Kept lanes c old old (numbers [] b) Opens bytes
open_kept lanes b c old bytes k h e = record {
  fault = sym (none_newest lanes old h);
  event = λ n. sym (same_event lanes old old refl);
  stand = λ n. h;
  knows = λ n. record {
    attributes = k.attributes;
    live = k.live;
    live_at = k.live_at;
    lines = k.lines;
    valids = k.valids;
    room = k.room;
    at = (tt, let z : 0 + b ≡ b = omega arith in z ∙ e, refl, refl);
  };
}

-- ---- numbers

row_fits : (l : Lanes) (r n : ℕ) → r + suc n ≡ 36 / lanes_count l → r * lanes_count l + lanes_count l ≤ 36
row_fits One r n h = omega (arith, h)
row_fits Two r n h = omega (arith, h)
row_fits Four r n h = omega (arith, h)

pub one_row : (lanes : ℕ) (rows : List (List ℕ)) (bytes : List ℕ) → AreRows lanes rows → length bytes ≡ lanes
    → AreRows lanes (rows ++ bytes ∷ [])
one_row lanes [] bytes h e = (e, tt)
one_row lanes (r ∷ rows) bytes h e = (h.0, one_row lanes rows bytes h.1 e)

number_knows : (l : Lanes) (c : Counts) (old : List Part) (rows : List (List ℕ)) (n : ℕ) (bytes : List ℕ)
    → length bytes ≡ lanes_count l
    → Knows (lanes_count l) c old (numbers rows (suc n))
    → Knows (lanes_count l) (with_row c bytes) old (numbers (rows ++ bytes ∷ []) n)
number_knows l c old rows n bytes e k =
    let t : c.taken ≡ length rows * lanes_count l = k.at.2 ∙ flat_length (lanes_count l) rows k.at.0 in
    let f : length rows * lanes_count l + lanes_count l ≤ 36 = row_fits l (length rows) n k.at.1 in
    let le : c.taken + length bytes ≤ 36 = omega (arith, t, f, e) in
    let b : nat_le (c.taken + length bytes) 36 ≡ true = grind arith in
    let r : c.taken + length bytes ≤ length c.bytes = omega (arith, le, k.room) in
    subst (λ (x : Counts). Knows (lanes_count l) x old (numbers (rows ++ bytes ∷ []) n))
    (sym (ap (λ v. cond v (record c { bytes = put c.bytes c.taken bytes; taken = c.taken + length bytes }) c) b))
    (record {
      attributes = k.attributes;
      live = k.live;
      live_at = k.live_at;
      lines = k.lines;
      valids = k.valids;
      room = put_length c.bytes c.taken bytes ∙ k.room;
      at = (
        one_row (lanes_count l) rows bytes k.at.0 e,
        omega (arith, length-append rows (bytes ∷ []), k.at.1),
        ap (λ m. m + length bytes) k.at.2 ∙ sym (length-append (flat rows) bytes)
            ∙ ap length (sym (flat_more rows bytes)),
        put_take c.bytes c.taken bytes r ∙ ap (λ xs. xs ++ bytes) k.at.3 ∙ sym (flat_more rows bytes),
      );
    })

pub number_kept : (l : Lanes) (c : Counts) (old : List Part) (rows : List (List ℕ)) (n : ℕ) (bytes : List ℕ)
    → length bytes ≡ lanes_count l
    → Knows (lanes_count l) c old (numbers rows (suc n)) → AllStand (lanes_count l) old
    → Kept (lanes_count l) c old old (numbers (rows ++ bytes ∷ []) n) Number bytes
number_kept l c old rows n bytes e k h = record {
  fault = sym (none_newest (lanes_count l) old h);
  event = λ n. sym (same_event (lanes_count l) old old refl);
  stand = λ n. h;
  knows = λ z. number_knows l c old rows n bytes e k;
}

-- ---- parts that change nothing

pub filler_kept : (lanes : ℕ) (c : Counts) (old : List Part) (x bytes : List ℕ) → Knows lanes c old blank
    → AllStand lanes old
    → Kept lanes c old (filler x ∷ old) blank Other bytes
filler_kept lanes c old x bytes k h = record {
  fault = refl;
  event = λ n. sym (longer_event lanes old (filler x));
  stand = λ n. (n, h);
  knows = λ n. record {
    attributes = k.attributes;
    live = k.live;
    live_at = k.live_at;
    lines = k.lines;
    valids =
        k.valids;
    room = k.room;
    at = tt;
  };
}

pub secondary_kept : (lanes : ℕ) (c : Counts) (old : List Part) (rows : List (List ℕ)) (bytes : List ℕ)
    → Knows lanes c old (packet rows) → AllStand lanes old
    → Kept lanes c old (secondary rows ∷ old) blank Other bytes
secondary_kept lanes c old rows bytes k h = record {
  fault = refl;
  event = λ n. sym (longer_event lanes old (secondary rows));
  stand = λ n. (n, h);
  knows = λ n. record {
    attributes = k.attributes;
    live = k.live;
    live_at = k.live_at;
    lines = k.lines;
    valids =
        k.valids;
    room = k.room;
    at = tt;
  };
}

pub stuffing_kept : (lanes : ℕ) (c : Counts) (old : List Part) (s : Place) (x : Option (List (List ℕ))) (bytes : List ℕ)
    → is_live_at s ≡ true
    → Knows lanes c old s → AllStand lanes old → Kept lanes c old (stuffing x ∷ old) active Other bytes
stuffing_kept lanes c old s x bytes e k h = record {
  fault = refl;
  event = λ n. sym (longer_event lanes old (stuffing x));
  stand = λ n. (n, h);
  knows = λ n. record {
    attributes = k.attributes;
    live = k.live;
    live_at = k.live_at ∙ e;
    lines = k.lines;
    valids =
        k.valids;
    room = k.room;
    at = tt;
  };
}

-- ---- a group

pub in_each : {A : Type 0} (o : Option Attributes) (f g : Option Attributes → A) → (o ≡ None → f None ≡ g None)
    → ((a : Attributes) → o ≡ Some a → f (Some a) ≡ g (Some a)) → f o ≡ g o
in_each None f g n s = n refl
in_each (Some a) f g n s = s a refl

head_same : (lanes : ℕ) (a : Attributes) (live other : Bool) (m n : ℕ) → live ≡ other → (other ≡ true → m ≡ n)
    → head_fault lanes (Some a) live m ≡ head_fault lanes (Some a) other n
head_same lanes a live true m n e h = ap (λ l. head_fault lanes (Some a) l m) e
    ∙ ap (λ v. head_fault lanes (Some a) true v) (h refl)
head_same lanes a live false m n e h = ap (λ l. head_fault lanes (Some a) l m) e

head_is : (lanes : ℕ) (c : Counts) (old : List Part) (s : Place) → Knows lanes c old s
    → head_fault lanes c.attributes c.live c.valids ≡ head_fault lanes (in_force lanes old) (is_live old) (valids old)
head_is lanes c old s k =
    ap (λ o. head_fault lanes o c.live c.valids) k.attributes
    ∙ in_each (in_force lanes old) (λ o. head_fault lanes o c.live c.valids)
    (λ o. head_fault lanes o (is_live old) (valids old)) (λ e. refl)
    (λ a e. head_same lanes a c.live (is_live old) c.valids (valids old) k.live (λ l. (k.valids a e l).0))

ended_lines : (live : Bool) (got had height : ℕ) → got ≡ had → had + (if live then 1 else 0) ≤ height → height ≤ 8192
    → ((if live then one_more got else got) ≡ (if live then had + 1 else had))
    × ((if live then had + 1 else had) + 0 ≤ height)
ended_lines true got had height e h b = (omega (arith, e, h, b), omega (arith, h))
ended_lines false got had height e h b = (e, h)

pub head_kept : (lanes : ℕ) (c : Counts) (old : List Part) (s : Place) (reset : Bool) (bytes : List ℕ) (now : Place)
    → is_live_at now ≡ false
    → ((d : Counts) → d.first ≡ None → AtPlace lanes d now) → Knows lanes c old s → AllStand lanes old
    → Kept lanes c old (group reset ∷ old) now Head bytes
head_kept lanes c old s reset bytes now z at k h = record {
  fault = head_is lanes c old s k;
  event = λ n.
      ap (λ o. if is_some o && c.live then event.LineEnd else event.Nothing) k.attributes
      ∙ ap (λ v. if is_some (in_force lanes old) && v then event.LineEnd else event.Nothing) k.live
      ∙ sym (longer_event lanes old (group reset));
  stand = λ n. (n, h);
  knows = λ n. record {
    attributes = k.attributes;
    live = refl;
    live_at = sym z;
    lines = λ a e.
        let o = k.lines a e in
        let x = ended_lines (is_live old) c.lines (lines old) a.height o.0 o.1 o.2 in
        (ap (λ v. if v then one_more c.lines else c.lines) k.live ∙ x.0, x.1, o.2, o.3);
    valids = λ a e l. absurd (no_live l);
    room = k.room;
    at = at (headed c) refl;
  };
}
  where
    no_live : false ≡ true → ⊥
    no_live e = cc
