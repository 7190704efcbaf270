-- What is kept of attributes and lines stays right.
use Rattle.std.proofs.Common.{ℕ, ◌+◌, ◌*◌, ◌/◌, ◌≤◌, ◌<◌, ◌≡◌, ◌∙◌, List, ◌∷◌, Bool, true, false}
use Rattle.std.proofs.Common.{Some, None, length, refl, sym, ap, subst, arith}
use Rattle.std.specs.Prelude.{nat_lt, is_some, if◌then◌else◌}
use Rattle.std.specs.Result.{result_ok}
use Rattle.std.proofs.lemmas.List.{take_all}
use Rattle.dpx_base.specs.declared.lanes.Lanes.{Lanes}
use Rattle.dpx_base.specs.declared.lanes.Lanes.TheVariants.{One, Two, Four}
use Rattle.dpx_base.specs.Lanes.{lanes_count}
use Rattle.dpx_grammar.specs.Accepted.{line_length}
use Rattle.dpx_grammar.specs.Gathered.{gathered}
use Rattle.dpx_msa.specs.Reading.{read_attributes}
use Rattle.dpx_grammar.specs.Machine.{blank, numbers, active}
use Rattle.dpx_grammar.specs.Parts.{Part, attributes, begins, valid}
use Rattle.dpx_parse.specs.Bytes.{flat}
use Rattle.dpx_parse.specs.Counts.{read_by}
use Rattle.dpx_parse.specs.Columns.{dealt}
use Rattle.dpx_parse.specs.Events.{attributes_event}
use Rattle.dpx_parse.specs.Faults.{in_force, is_live, valids, lines, AllStand}
use Rattle.dpx_parse.specs.Faults.{begin_fault, end_fault, valid_fault}
use Rattle.dpx_parse.specs.Stands.{Knows}
use Rattle.dpx_parse.specs.declared.bad.ParseWhy.{ParseWhy}
use Rattle.dpx_parse.specs.declared.counts.Counts.{Counts}
use Rattle.dpx_parse.specs.declared.event.Event.TheVariants as event
use Rattle.dpx_parse.specs.declared.state.Mark.TheVariants.{AttributesEnd, Begins, Valid}
use Rattle.dpx_parse.proofs.Bytes.{flat_length, dealt_is}
use Rattle.dpx_parse.proofs.Fits.{small_read}
use Rattle.dpx_parse.proofs.Keeps.{Kept, longer_event, in_each}

-- ---- the end of attributes

all_taken : (l : Lanes) (r : ℕ) → r + 0 ≡ 36 / lanes_count l → r * lanes_count l ≡ 36
all_taken One r h = omega (arith, h)
all_taken Two r h = omega (arith, h)
all_taken Four r h = omega (arith, h)

read_is : (l : Lanes) (c : Counts) (old : List Part) (rows : List (List ℕ))
    → Knows (lanes_count l) c old (numbers rows 0)
    → read_by (lanes_count l) c ≡ read_attributes (gathered (lanes_count l) rows)
read_is l c old rows k =
    let n : length rows ≡ 36 / lanes_count l = let z : length rows + 0 ≡ length rows = omega arith in sym z ∙ k.at.1 in
    let t : c.taken ≡ 36 = k.at.2 ∙ flat_length (lanes_count l) rows k.at.0 ∙ all_taken l (length rows) k.at.1 in
    let w : c.bytes ≡ flat rows = sym (take_all c.taken c.bytes (omega (arith, t, k.room))) ∙ k.at.3 in
    ap read_attributes (ap (dealt (lanes_count l)) w ∙ dealt_is l rows k.at.0 n)

pub end_kept : (l : Lanes) (c : Counts) (old : List Part) (rows : List (List ℕ)) (bytes : List ℕ)
    → Knows (lanes_count l) c old (numbers rows 0)
    → AllStand (lanes_count l) old → Kept (lanes_count l) c old (attributes rows ∷ old) blank AttributesEnd bytes
end_kept l c old rows bytes k h =
    let r : read_by (lanes_count l) c ≡ read_attributes (gathered (lanes_count l) rows) = read_is l c old rows k in
    record {
      fault =
          ap (λ o. end_fault o c.lines (read_by (lanes_count l) c)) k.attributes
          ∙ ap (λ x. end_fault (in_force (lanes_count l) old) c.lines x) r
          ∙ in_each (in_force (lanes_count l) old) (λ o. end_fault o c.lines (read_attributes (gathered (lanes_count l) rows)))
          (λ o. end_fault o (lines old) (read_attributes (gathered (lanes_count l) rows))) (λ e. refl)
          (λ a e. ap (λ m. end_fault (Some a) m (read_attributes (gathered (lanes_count l) rows))) (k.lines a e).0);
      event = λ n. ap attributes_event r ∙ sym (longer_event (lanes_count l) old (attributes rows));
      stand = λ n. (n, h);
      knows = λ n. record {
        attributes = ap result_ok r;
        live = k.live;
        live_at = k.live_at;
        lines = λ a e.
            let s = small_read l (gathered (lanes_count l) rows) a e in
            let q : is_live old ≡ false = k.live_at in
            (refl, subst (λ v. 0 + (if v then 1 else 0) ≤ a.height) (sym q) (omega arith), s.0, s.1);
        valids = λ a e v. absurd (differ (sym k.live_at ∙ v));
        room = k.room;
        at = tt;
      };
    }
  where
    differ : false ≡ true → ⊥
    differ e = cc

-- ---- a line

lt_of : (b : Bool) (why : ParseWhy) → (if b then None else Some why) ≡ None → b ≡ true
lt_of true why h = refl
lt_of false why h = absurd (cc)

below : (m n : ℕ) → nat_lt m n ≡ true → m < n
below m n h = grind arith

pub begin_kept : (lanes : ℕ) (c : Counts) (old : List Part) (bytes : List ℕ) → Knows lanes c old blank
    → AllStand lanes old
    → Kept lanes c old (begins ∷ old) active Begins bytes
begin_kept lanes c old bytes k h = record {
  fault =
      ap (λ o. begin_fault o c.lines) k.attributes
      ∙ in_each (in_force lanes old) (λ o. begin_fault o c.lines) (λ o. begin_fault o (lines old)) (λ e. refl)
      (λ a e. ap (λ m. begin_fault (Some a) m) (k.lines a e).0);
  event = λ n. ap (λ o. if is_some o then event.LineStart else event.Nothing) k.attributes
      ∙ sym (longer_event lanes old begins);
  stand = λ n. (n, h);
  knows = λ n. record {
    attributes = k.attributes;
    live = refl;
    live_at = refl;
    lines = λ a e.
        let o = k.lines a e in
        let b : lines old < a.height = below (lines old) a.height
        (lt_of _ _ (ap (λ x. begin_fault x (lines old)) (sym e) ∙ n)) in
        (o.0, omega (arith, b), o.2, o.3);
    valids = λ a e l. (refl, omega arith);
    room = k.room;
    at = tt;
  };
}

valid_is : (lanes : ℕ) (c : Counts) (old : List Part) → Knows lanes c old active
    → valid_fault lanes c.attributes c.valids ≡ valid_fault lanes (in_force lanes old) (valids old)
valid_is lanes c old k =
    ap (λ o. valid_fault lanes o c.valids) k.attributes
    ∙ in_each (in_force lanes old) (λ o. valid_fault lanes o c.valids) (λ o. valid_fault lanes o (valids old))
    (λ e. refl)
    (λ a e. ap (λ m. valid_fault lanes (Some a) m) (k.valids a e k.live_at).0)

pub valid_kept : (lanes : ℕ) (c : Counts) (old : List Part) (bytes : List ℕ) → Knows lanes c old active
    → AllStand lanes old
    → Kept lanes c old (valid bytes ∷ old) active Valid bytes
valid_kept lanes c old bytes k h = record {
  fault = valid_is lanes c old k;
  event = λ n. ap (λ o. if is_some o then event.Valid bytes else event.Nothing) k.attributes
      ∙ sym (longer_event lanes old (valid bytes));
  stand = λ n. (n, h);
  knows = λ n. record {
    attributes = k.attributes;
    live = k.live;
    live_at = k.live_at;
    lines = k.lines;
    valids = λ a e l.
        let v = (k.valids a e l).0 in
        let s = (k.lines a e).3 in
        let b : valids old < line_length lanes a =
        below (valids old) (line_length lanes a)
        (lt_of _ _ (ap (λ x. valid_fault lanes x (valids old)) (sym e) ∙ n)) in
        (omega (arith, v, b, s), omega (arith, b));
    room = k.room;
    at = tt;
  };
}
