-- A set that is taken.
use Rattle.std.proofs.Common.{ℕ, ◌+◌, ◌/◌, ◌≡◌, ◌∙◌, List, [], ◌∷◌, ◌++◌, Option, Some, None, Ok, Err}
use Rattle.std.proofs.Common.{Bool, length, reverse, refl, sym, ap, subst}
use Rattle.std.specs.Prelude.{Result, if◌then◌else◌}
use Rattle.dpx_base.specs.declared.sym.Sym.{Sym}
use Rattle.dpx_base.specs.Lanes.{lanes_count}
use Rattle.dpx_grammar.specs.Machine.{Token, row, code, token_set}
use Rattle.dpx_grammar.specs.Machine.{Place}
use Rattle.dpx_grammar.specs.Machine.{step, grown}
use Rattle.dpx_grammar.specs.Parts.{Part}
use Rattle.dpx_grammar.specs.Machine.{begun_of}
use Rattle.dpx_parse.specs.Core.{Taken, by_fault, by_next, by_kind, taken_by}
use Rattle.dpx_parse.specs.Counts.{after, fault_by, event_by}
use Rattle.dpx_parse.specs.Events.{event_told}
use Rattle.dpx_parse.specs.FirstFault.{IsEvent}
use Rattle.dpx_base.specs.Symbols.{bytes_of}
use Rattle.dpx_parse.specs.Kind.{kind_of}
use Rattle.dpx_parse.specs.Stands.{told, state_of, Stands, tail_at, is_live_at, number_of}
use Rattle.dpx_parse.specs.State.{next, open_after, is_open}
use Rattle.dpx_parse.specs.declared.counts.Counts.{Counts}
use Rattle.dpx_parse.specs.declared.bad.ParseWhy.{ParseWhy}
use Rattle.dpx_parse.specs.declared.machine.Core.{Core}
use Rattle.dpx_parse.specs.declared.kind.Kind.{Kind}
use Rattle.dpx_parse.specs.declared.kind.Kind.TheVariants.{Cp, Other}
use Rattle.dpx_parse.specs.declared.state.State.TheVariants.{Start, Second, Third, Fourth, Ids, Blank, Opened, Numbers}
use Rattle.dpx_parse.specs.declared.state.State.TheVariants.{Packet, Active, Fill}
use Rattle.dpx_parse.specs.declared.state.State.{State}
use Rattle.dpx_parse.specs.declared.state.Mark.{Mark}
use Rattle.dpx_parse.proofs.Steps.{Same, same, mark_at}
use Rattle.dpx_grammar.specs.Machine.{Reads}
use Rattle.dpx_parse.proofs.Takes.{row_bytes, KeptBy, kept}
use Rattle.dpx_parse.proofs.Keeps.{Kept}
use Rattle.dpx_parse.proofs.Tokens.{IsTokenOf, find_token, bytes_back}
use Rattle.dpx_parse.proofs.Reading.{back_told, tells_of, grown_told, more_reads, is_at, block_some}
use Rattle.dpx_parse.proofs.TailSteps.{TailBy, tail_step, open_live, open_more}

-- ---- a step of the machine

abbrev moved : Core → State → Counts → Core
moved c state counts = record {
  lanes = c.lanes;
  enhanced = c.enhanced;
  state = state;
  counts = counts;
  unended =
      open_after state c.unended;
}

-- the step that a set makes
pub record Step (c : Core) (sets : List (List Sym)) (set : List Sym) (s : Stands c sets) (mark : Mark)
    (state : State) : Type 0 where
  pub part : Option Part
  pub now : Place
  pub reads : Reads c.enhanced (lanes_count c.lanes) (sets ++ set ∷ []) (grown s.whole part) now
  pub state_is : state ≡ state_of now
  pub kept : Kept (lanes_count c.lanes) c.counts (told (reverse s.whole) s.place)
      (told (reverse (grown s.whole part)) now) now mark (bytes_of set)
  pub tail_is : tail_at c.enhanced (lanes_count c.lanes) (reverse (grown s.whole part)) now
      ≡ (if is_live_at now then tail_at c.enhanced (lanes_count c.lanes) (reverse s.whole) s.place + 1 else 0)

no_cp : (e : Bool) (b a : ℕ) (s : State) → next e b a s Cp ≡ None
no_cp e b a Start = refl
no_cp e b a (Second r) = refl
no_cp e b a (Third r) = refl
no_cp e b a (Fourth r) = refl
no_cp e b a (Ids n) = refl
no_cp e b a Blank = refl
no_cp e b a Opened = refl
no_cp e b a (Numbers n) = refl
no_cp e b a Packet = refl
no_cp e b a Active = refl
no_cp e b a Fill = refl

no_other : (e : Bool) (b a : ℕ) (s : State) → next e b a s Other ≡ None
no_other e b a Start = refl
no_other e b a (Second r) = refl
no_other e b a (Third r) = refl
no_other e b a (Fourth r) = refl
no_other e b a (Ids n) = refl
no_other e b a Blank = refl
no_other e b a Opened = refl
no_other e b a (Numbers n) = refl
no_other e b a Packet = refl
no_other e b a Active = refl
no_other e b a Fill = refl

pub not_some : (to : Mark × State) → ◌≡◌ {A = Option (Mark × State)} None (Some to) → ⊥
not_some to e = cc

pair_two : (m n : Mark) (s t : State) → ◌≡◌ {A = Option (Mark × State)} (Some (m, s)) (Some (n, t)) → (m ≡ n) × (s ≡ t)
pair_two m n s t e = let p = some_one (m, s) (n, t) e in (ap (λ x. x.0) p, ap (λ x. x.1) p)
  where
    some_one : (x y : Mark × State) → Some x ≡ Some y → x ≡ y
    some_one x y e = cc

bytes_are : (n : ℕ) (t : Token) (set : List Sym) → token_set n t ≡ set → row_bytes t (bytes_of set) ≡ bytes_of set
bytes_are n (row bytes) set e = sym (bytes_back bytes) ∙ ap bytes_of e
bytes_are n (code c) set e = refl

pub a_step : (c : Core) (sets : List (List Sym)) (set : List Sym) (s : Stands c sets) (kind : Kind) (mark : Mark)
    (state : State)
    → length set ≡ lanes_count c.lanes → kind_of set ≡ Some kind
    → next c.enhanced (12 / lanes_count c.lanes) (36 / lanes_count c.lanes) c.state kind ≡ Some (mark, state)
    → Step c sets set s mark state
a_step c sets set s kind mark state l k x =
    let n : ℕ = lanes_count c.lanes in
    let x' : next c.enhanced (12 / lanes_count c.lanes) (36 / lanes_count c.lanes) (state_of s.place) kind
    ≡ Some (mark, state) =
    ap (λ z. next c.enhanced (12 / lanes_count c.lanes) (36 / lanes_count c.lanes) z kind) (sym s.state) ∙ x in
    let t : IsTokenOf (lanes_count c.lanes) set kind =
    find_token (lanes_count c.lanes) set kind l k
    (λ e. not_some (mark, state) (sym (no_cp c.enhanced (12 / lanes_count c.lanes) (36 / lanes_count c.lanes)
    (state_of s.place)) ∙ ap (next c.enhanced (12 / lanes_count c.lanes) (36 / lanes_count c.lanes)
    (state_of s.place)) (sym e) ∙ x'))
    (λ e. not_some (mark, state) (sym (no_other c.enhanced (12 / lanes_count c.lanes) (36 / lanes_count c.lanes)
    (state_of s.place)) ∙ ap (next c.enhanced (12 / lanes_count c.lanes) (36 / lanes_count c.lanes)
    (state_of s.place)) (sym e) ∙ x')) in
    go t (step c.enhanced (12 / lanes_count c.lanes) (36 / lanes_count c.lanes) s.place t.token) refl
    (same c.enhanced (12 / lanes_count c.lanes) (36 / lanes_count c.lanes) s.place t.token
    (is_at (lanes_count c.lanes) c.counts s.place s.knows.at))
    (kept c.enhanced c.lanes c.counts (reverse s.whole) s.place t.token (bytes_of set) t.good s.knows s.stand
    (block_some c.lanes)) x'
  where
    go : (t : IsTokenOf (lanes_count c.lanes) set kind) (o : Option (Option Part × Place))
        → step c.enhanced (12 / lanes_count c.lanes) (36 / lanes_count c.lanes) s.place t.token ≡ o
        → Same c.enhanced (12 / lanes_count c.lanes) (36 / lanes_count c.lanes) s.place t.token o
        → KeptBy (lanes_count c.lanes) c.counts (reverse s.whole) s.place t.token (bytes_of set) o
        → next c.enhanced (12 / lanes_count c.lanes) (36 / lanes_count c.lanes) (state_of s.place) kind
        ≡ Some (mark, state)
        → Step c sets set s mark state
    go t None e same_as k x =
        absurd (not_some (mark, state) (sym same_as
        ∙ ap (next c.enhanced (12 / lanes_count c.lanes) (36 / lanes_count c.lanes) (state_of s.place)) t.kind ∙ x))
    go t (Some to) e same_as k x =
        let p = pair_two (mark_at s.place t.token) mark (state_of to.1) state
        (sym same_as ∙ ap (next c.enhanced (12 / lanes_count c.lanes) (36 / lanes_count c.lanes)
        (state_of s.place)) t.kind ∙ x) in
        record {
          part = to.0;
          now = to.1;
          reads = more_reads c.lanes c.enhanced sets set s.whole s.place t.token to.0 to.1 s.reads
              (is_at (lanes_count c.lanes) c.counts s.place s.knows.at) t.sets t.good e;
          state_is = sym p.1;
          tail_is =
              ap (λ w. tail_at c.enhanced (lanes_count c.lanes) w to.1) (grown_told s.whole to.0)
              ∙ subst (TailBy c.enhanced (lanes_count c.lanes) (reverse s.whole) s.place) e
              (tail_step c.enhanced (lanes_count c.lanes) (12 / lanes_count c.lanes) (36 / lanes_count c.lanes)
              (reverse s.whole) s.place t.token);
          kept =
              subst (λ b. Kept (lanes_count c.lanes) c.counts (told (reverse s.whole) s.place)
              (told (reverse (grown s.whole to.0)) to.1) to.1 mark b)
              (bytes_are (lanes_count c.lanes) t.token set t.sets)
              (subst (λ m. Kept (lanes_count c.lanes) c.counts (told (reverse s.whole) s.place)
              (told (reverse (grown s.whole to.0)) to.1) to.1 m (row_bytes t.token (bytes_of set))) p.0
              (subst (λ w. Kept (lanes_count c.lanes) c.counts (told (reverse s.whole) s.place) (told w to.1) to.1
              (mark_at s.place t.token) (row_bytes t.token (bytes_of set)))
              (sym (grown_told s.whole to.0)) k));
        }

-- ---- taken

pub record Took (c : Core) (sets : List (List Sym)) (set : List Sym) (e : Taken) : Type 0 where
  pub stands : Stands e.core (sets ++ set ∷ [])
  pub event : IsEvent c.enhanced (lanes_count c.lanes) sets set e.event

stepped : (c : Core) (sets : List (List Sym)) (set : List Sym) (s : Stands c sets) (mark : Mark) (state : State)
    → Step c sets set s mark state
    → fault_by (lanes_count c.lanes) c.counts mark (bytes_of set) ≡ None
    → Took c sets set (record {
      core = moved c state (after (lanes_count c.lanes) c.counts mark (bytes_of set));
      event = event_by (lanes_count c.lanes) c.counts mark (bytes_of set);
    })
stepped c sets set s mark state x f =
    let n = sym x.kept.fault ∙ f in
    record {
      stands = record {
        whole = grown s.whole x.part;
        place = x.now;
        reads = x.reads;
        state = x.state_is;
        stand = x.kept.stand n;
        knows = x.kept.knows n;
        unended =
            ap (λ z. open_after z c.unended) x.state_is
            ∙ open_more (is_open (state_of x.now)) (is_live_at x.now) c.unended
            (tail_at c.enhanced (lanes_count c.lanes) (reverse s.whole) s.place) (open_live x.now) s.unended
            ∙ ap number_of (sym x.tail_is);
      };
      event = record {
        old = s.whole ++ begun_of s.place;
        old_are = tells_of c.lanes c.enhanced sets s.whole s.place s.reads;
        new = grown s.whole x.part ++ begun_of x.now;
        new_are = tells_of c.lanes c.enhanced (sets ++ set ∷ []) (grown s.whole x.part) x.now x.reads;
        event_is =
            x.kept.event n ∙ ap (λ w. event_told (lanes_count c.lanes) w (told (reverse (grown s.whole x.part)) x.now))
            (sym (back_told s.whole s.place))
            ∙ ap (event_told (lanes_count c.lanes) (reverse (s.whole ++ begun_of s.place)))
            (sym (back_told (grown s.whole x.part) x.now));
      };
    }

ok_one : (x y : Taken) → ◌≡◌ {A = Result Taken ParseWhy} (Ok x) (Ok y) → x ≡ y
ok_one x y e = cc

no_err : (w : ParseWhy) (y : Taken) → ◌≡◌ {A = Result Taken ParseWhy} (Err w) (Ok y) → ⊥
no_err w y e = cc

taken_fault : (c : Core) (sets : List (List Sym)) (set : List Sym) (s : Stands c sets) (mark : Mark) (state : State)
    (e : Taken) → Step c sets set s mark state
    → (o : Option ParseWhy) → fault_by (lanes_count c.lanes) c.counts mark (bytes_of set) ≡ o
    → by_fault c set mark state o ≡ Ok e → Took c sets set e
taken_fault c sets set s mark state e x (Some why) f h = absurd (no_err why e h)
taken_fault c sets set s mark state e x None f h =
    subst (Took c sets set) (ok_one _ e h) (stepped c sets set s mark state x f)

taken_next : (c : Core) (sets : List (List Sym)) (set : List Sym) (s : Stands c sets) (kind : Kind) (e : Taken)
    → length set ≡ lanes_count c.lanes
    → kind_of set ≡ Some kind → (o : Option (Mark × State))
    → next c.enhanced (12 / lanes_count c.lanes) (36 / lanes_count c.lanes) c.state kind ≡ o
    → by_next c set kind o ≡ Ok e → Took c sets set e
taken_next c sets set s kind e l k None x h = absurd (no_err _ e h)
taken_next c sets set s kind e l k (Some to) x h =
    taken_fault c sets set s to.0 to.1 e (a_step c sets set s kind to.0 to.1 l k x)
    (fault_by (lanes_count c.lanes) c.counts to.0 (bytes_of set)) refl h

taken_kind : (c : Core) (sets : List (List Sym)) (set : List Sym) (s : Stands c sets) (e : Taken)
    → length set ≡ lanes_count c.lanes
    → (o : Option Kind) → kind_of set ≡ o → by_kind c set o ≡ Ok e → Took c sets set e
taken_kind c sets set s e l None k h = absurd (no_err _ e h)
taken_kind c sets set s e l (Some kind) k h =
    taken_next c sets set s kind e l k (next c.enhanced (12 / lanes_count c.lanes)
    (36 / lanes_count c.lanes) c.state kind) refl h

pub takes : (c : Core) (sets : List (List Sym)) (set : List Sym) (e : Taken) → length set ≡ lanes_count c.lanes
    → taken_by c set ≡ Ok e
    → Stands c sets → Took c sets set e
takes c sets set e l h s = taken_kind c sets set s e l (kind_of set) refl h
