-- A lane's fault is its first bad word, with its reason.
use Rattle.std.proofs.Common.{◌≡◌, ℕ, suc, ◌<◌, ◌≤◌, ◌+◌, ◌⊎◌, inl, inr, ⊎_elim, Bool, true, false, nat_lt}
use Rattle.std.proofs.Common.{if◌then◌else◌}
use Rattle.std.proofs.Common.{List, [], ◌∷◌, ◌++◌, length, take, map, refl, sym, ap, subst, ◌∙◌, arith, append_assoc}
use Rattle.std.proofs.Common.{length-append}
use Rattle.std.proofs.Common.{Option, Some, None, Result, Ok, Err, MatchResult}
use Rattle.std.specs.Prelude.{slice_index_or, IfErr}
use Rattle.std.proofs.Math.Seq.{take-append_seam}
use Rattle.std.proofs.lemmas.Bool.{ltb-true, ltb-false}
use Rattle.std.proofs.lemmas.List.{take_at, take-append-le, get_or_append_left, get_or_at}
use Rattle.dpx_base.specs.Code.{Coded, Listed}
use Rattle.dpx_base.specs.Key.{Keyed}
use Rattle.dpx_base.specs.Words.{BadAt, FirstBad, NoneBad, LaneSymbols}
use Rattle.dpx_base.specs.declared.sym.Sym.{Sym}
use Rattle.dpx_code.specs.Decode.{decoded, candidate_of, StandsElsewhere}
use Rattle.dpx_code.specs.Disparity.{rd_of}
use Rattle.dpx_code.specs.Track.{Tracks, Stuck}
use Rattle.dpx_code.specs.declared.decoding.CodeBad.{CodeBad}
use Rattle.dpx_code.specs.declared.decoding.CodeBad.TheVariants.{NotAWord, WrongColumn}
use Rattle.dpx_code.specs.declared.disparity.Rd.{Rd}
use Rattle.dpx_code.specs.declared.disparity.Rd.TheVariants.{Minus, Plus, Unknown}
use Rattle.dpx_code.proofs.Lists.{Runs, runs, listed_front, stuck_unlisted, tracks_end}
use Rattle.dpx_code.proofs.Readings.{reads_refusal, reads_not_a_word, reads_wrong_column}
use Rattle.dpx_code.proofs.Small.{coded_small}
use Rattle.dpx_code.proofs.Tracking.{tracked}
use Rattle.dpx_lane.specs.Reading.{as_word_bad, read_word, IsReason, IsFault}
use Rattle.dpx_lane.specs.Receiving.{HasDecoded, FaultBehind, Ends, IsReading}
use Rattle.dpx_lane.specs.declared.lane_fault.LaneFault.{LaneFault}
use Rattle.dpx_lane.specs.declared.lane_fault.WordBad.{WordBad}
use Rattle.dpx_lane.specs.declared.lane_fault.WordBad.TheVariants.{Value, Code}
use Rattle.dpx_lane.specs.declared.decoder.Decoder.{Decoder}

-- no word of those that were read is bad, whatever follows
good_word : (rd : Rd) (good rest : List ℕ) (t : ℕ) → Tracks rd good → t < length good → BadAt (good ++ rest) t → ⊥
good_word rd good rest t h l b =
    let r = runs rd good h in
    let symbols = map candidate_of good in
    let small = coded_small r.from symbols good r.end t r.code in
    let e = get_or_append_left good rest 0 t l in
    let f = take-append-le (t + 1) good rest (omega arith) in
    ⊎_elim
    (λ (k : 1024 ≤ slice_index_or (good ++ rest) t 0). let z : ⊥ = omega arith in z)
    (λ (k : Listed (take (t + 1) (good ++ rest)) → ⊥).
    k (subst (λ (x : List ℕ). Listed x) (sym f) (listed_front (t + 1) r.from symbols good r.end r.code)))
    b.bad

-- a word that is refused is too large, or no list has it
stuck_from : (word : ℕ) (good : List ℕ) (x : Result (Sym × Rd) CodeBad) (why : WordBad) → as_word_bad x ≡ Err why
    → MatchResult x
    (λ read. (read.0 ≡ candidate_of word) × Tracks read.1 (good ++ word ∷ []))
    (λ bad. Stuck (good ++ word ∷ []))
    → Stuck (good ++ word ∷ [])
stuck_from word good (Ok read) why e h = cc
stuck_from word good (Err bad) why e h = h

bad_by : (word : ℕ) (rd : Rd) (good : List ℕ) (why : WordBad) (b : Bool) → nat_lt word 1024 ≡ b → Tracks rd good
    → (if b then as_word_bad (decoded word rd) else Err (Value word)) ≡ Err why
    → (1024 ≤ word) ⊎ Stuck (good ++ word ∷ [])
bad_by word rd good why false e h r = inl (ltb-false word 1024 e)
bad_by word rd good why true e h r =
    inr (stuck_from word good (decoded word rd) why r (tracked rd good word (ltb-true word 1024 e) h))

word_there : (fault : LaneFault) (good rest : List ℕ) (h : FaultBehind fault good rest)
    → slice_index_or (good ++ rest) fault.clock 0 ≡ h.word
word_there fault good rest h =
    ap (λ (x : List ℕ). slice_index_or (good ++ x) fault.clock 0) h.there
    ∙ get_or_at good h.word h.more 0 fault.clock (sym h.clock)

bad_there : (fault : LaneFault) (good rest : List ℕ) → FaultBehind fault good rest → BadAt (good ++ rest) fault.clock
bad_there fault good rest h =
    let word = h.word in
    let e : good ++ rest ≡ good ++ word ∷ h.more = ap (λ (x : List ℕ). good ++ x) h.there in
    let split : good ++ rest ≡ (good ++ word ∷ []) ++ h.more = e ∙ sym (append_assoc good (word ∷ []) h.more) in
    record {
      within = omega (arith, ap length e, length-append good (word ∷ h.more), h.clock);
      bad = ⊎_elim
          (λ (k : 1024 ≤ word). inl (subst (λ (n : ℕ). 1024 ≤ n) (sym (word_there fault good rest h)) k))
          (λ (k : Stuck (good ++ word ∷ [])). inr (λ (l : Listed (take (fault.clock + 1) (good ++ rest))).
          let n : length (good ++ word ∷ []) ≡ fault.clock + 1 =
          omega (arith, length-append good (word ∷ []), h.clock) in
          let front = ap (take (fault.clock + 1)) split ∙ take_at (good ++ word ∷ []) h.more (fault.clock + 1) n in
          stuck_unlisted (good ++ word ∷ []) k (subst (λ (x : List ℕ). Listed x) front l)))
          (bad_by word h.rd good fault.why (nat_lt word 1024) refl h.tracks h.reason);
    }

-- a disparity that does not allow a column is known
known_rd : (rd : Rd) (word : ℕ) → StandsElsewhere rd word → (plus : Bool) × (rd ≡ rd_of plus)
known_rd Minus word e = (false, refl)
known_rd Plus word e = (true, refl)
known_rd Unknown word e = absurd (e.not_here e.plus tt e.stands)

reason_of : (word : ℕ) (rd : Rd) (good : List ℕ) (bad : CodeBad) → word < 1024 → Tracks rd good
    → decoded word rd ≡ Err bad → IsReason good word (Code bad)
reason_of word rd good bad l h e = ⊎_elim
    (λ (k : bad ≡ NotAWord word).
    let none = (reads_not_a_word word rd (decoded word rd) refl).0 (e ∙ ap Err k) in
    subst (λ b. IsReason good word (Code b)) (sym k) (refl, l, none))
    (λ (k : bad ≡ WrongColumn word rd).
    let other = (reads_wrong_column word rd (decoded word rd) refl).0 (e ∙ ap Err k) in
    let known = known_rd rd word other in
    let all : (from end : Bool) (symbols : List Sym) → Coded from symbols good end → rd ≡ rd_of end =
    λ from end symbols c.
    known.1 ∙ ap rd_of (sym (tracks_end known.0 good (subst (λ r. Tracks r good) known.1 h) from symbols end c)) in
    subst (λ b. IsReason good word (Code b)) (sym k) (refl, l, other, all))
    (subst (λ x. IfErr x (λ b. (b ≡ NotAWord word) ⊎ (b ≡ WrongColumn word rd))) e
    (reads_refusal word rd (decoded word rd) refl))

code_reason : (word : ℕ) (rd : Rd) (good : List ℕ) (x : Result (Sym × Rd) CodeBad) (why : WordBad)
    → decoded word rd ≡ x → word < 1024 → Tracks rd good → as_word_bad x ≡ Err why → IsReason good word why
code_reason word rd good (Ok read) why e l h r = cc
code_reason word rd good (Err bad) why e l h r =
    let k : Code bad ≡ why = cc in
    subst (λ w. IsReason good word w) k (reason_of word rd good bad l h e)

reason_by : (word : ℕ) (rd : Rd) (good : List ℕ) (why : WordBad) (b : Bool) → nat_lt word 1024 ≡ b → Tracks rd good
    → (if b then as_word_bad (decoded word rd) else Err (Value word)) ≡ Err why → IsReason good word why
reason_by word rd good why true e h r =
    code_reason word rd good (decoded word rd) why refl (ltb-true word 1024 e) h r
reason_by word rd good why false e h r =
    let k : Value word ≡ why = cc in
    subst (λ w. IsReason good word w) k (refl, ltb-false word 1024 e)

reason_there : (fault : LaneFault) (good rest : List ℕ) → FaultBehind fault good rest
    → IsReason (take fault.clock (good ++ rest)) (slice_index_or (good ++ rest) fault.clock 0) fault.why
reason_there fault good rest h =
    let front : take fault.clock (good ++ rest) ≡ good =
    ap (λ n. take n (good ++ rest)) h.clock ∙ take-append_seam good rest in
    subst (λ xs. IsReason xs (slice_index_or (good ++ rest) fault.clock 0) fault.why) (sym front)
    (subst (λ w. IsReason good w fault.why) (sym (word_there fault good rest h))
    (reason_by h.word h.rd good fault.why (nat_lt h.word 1024) refl h.tracks h.reason))

fault_by : (rd : Rd) (good rest : List ℕ) (fault : Option LaneFault) → Tracks rd good → Ends fault good rest
    → IsFault (good ++ rest) fault
fault_by rd good rest None h e =
    λ t b. good_word rd good rest t h (omega (arith, b.within, length-append good rest, ap length e)) b
fault_by rd good rest (Some fault) h e = (
  record {
    bad = bad_there fault good rest e;
    first = λ t l b. good_word rd good rest t h (omega (arith, e.clock, l)) b;
  },
  reason_there fault good rest e,
)

pub fault_is : (decoder : Decoder) (words left : List ℕ) → HasDecoded decoder words left → IsFault words decoder.fault
fault_is decoder words left h =
    subst (λ (x : List ℕ). IsFault x decoder.fault) (sym h.words_are)
    (fault_by decoder.rd h.good h.rest decoder.fault h.tracks h.end)

-- what the words say that were read
pub symbols_read : (rd : Rd) (good : List ℕ) (plain : List Sym) → Tracks rd good
    → Keyed (map candidate_of good) plain → LaneSymbols good plain
symbols_read rd good plain h k =
    let r = runs rd good h in
    record { from = r.from; coded = map candidate_of good; end = r.end; code = r.code; key = k }

cut_at : (fault : Option LaneFault) (good rest : List ℕ) → Ends fault good rest
    → (found : LaneFault) → fault ≡ Some found → length good ≡ found.clock
cut_at None good rest e found is = cc
cut_at (Some fault) good rest e found is =
    let same : fault ≡ found = cc in
    sym (ap (λ f. f.clock) (sym same) ∙ e.clock)

whole_if : (fault : Option LaneFault) (good rest : List ℕ) → Ends fault good rest → fault ≡ None → rest ≡ []
whole_if None good rest e is = e
whole_if (Some fault) good rest e is = cc

pub is_reading : (decoder : Decoder) (words left : List ℕ) → HasDecoded decoder words left → IsReading words left decoder.fault
is_reading decoder words left h = record {
  good = h.good;
  rest = h.rest;
  plain = h.plain;
  words_are = h.words_are;
  left_is = h.left_is;
  back = h.back;
  symbols = symbols_read decoder.rd h.good h.plain h.tracks h.key;
  is_fault = fault_is decoder words left h;
  whole = whole_if decoder.fault h.good h.rest h.end;
  cut = cut_at decoder.fault h.good h.rest h.end;
}
