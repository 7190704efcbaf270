-- A lane on the way in goes on.
use Rattle.std.proofs.Common.{◌≡◌, ℕ, zero, suc, ◌<◌, ◌+◌, ◌%◌, Bool, true, false, nat_lt, if◌then◌else◌}
use Rattle.std.proofs.Common.{List, [], ◌∷◌, ◌++◌, length, map, refl, sym, ap, subst, ◌∙◌, append-nil}
use Rattle.std.proofs.Common.{Option, Some, None, Result, Ok, Err, MatchResult}
use Rattle.std.specs.Option.{is_some}
use Rattle.std.proofs.lemmas.Bool.{ltb-true}
use Rattle.std.proofs.lemmas.List.{map_push, length_push}
use Rattle.dpx_base.specs.Key.{Keyed, since_reset, scrambled}
use Rattle.dpx_base.specs.declared.sym.Sym.{Sym}
use Rattle.dpx_code.specs.Decode.{decoded, candidate_of}
use Rattle.dpx_code.specs.Track.{Tracks, Stuck}
use Rattle.dpx_code.specs.declared.decoding.CodeBad.{CodeBad}
use Rattle.dpx_code.specs.declared.disparity.Rd.{Rd}
use Rattle.dpx_code.proofs.Tracking.{tracked}
use Rattle.dpx_lane.specs.Codes.{code_of, symbol_of}
use Rattle.dpx_lane.specs.Reading.{as_word_bad, read_word}
use Rattle.dpx_lane.specs.Receiving.{HasDecoded, Ends}
use Rattle.dpx_lane.specs.Scrambling.{HasTaken}
use Rattle.dpx_lane.specs.declared.lane_fault.LaneFault.{LaneFault}
use Rattle.dpx_lane.specs.declared.lane_fault.WordBad.{WordBad}
use Rattle.dpx_lane.specs.declared.lane_fault.WordBad.TheVariants.{Value}
use Rattle.dpx_lane.specs.declared.decoder.Decoder.{Decoder}
use Rattle.dpx_lane.proofs.Keyeds.{keyed_more}

as_ok : (x : Result (Sym × Rd) CodeBad) (read : Sym × Rd) → as_word_bad x ≡ Ok read → x ≡ Ok read
as_ok (Ok y) read h = cc
as_ok (Err bad) read h = cc

read_ok_by : (word : ℕ) (rd : Rd) (read : Sym × Rd) (b : Bool) → nat_lt word 1024 ≡ b
    → (if b then as_word_bad (decoded word rd) else Err (Value word)) ≡ Ok read
    → (word < 1024) × (decoded word rd ≡ Ok read)
read_ok_by word rd read true e h = (ltb-true word 1024 e, as_ok (decoded word rd) read h)
read_ok_by word rd read false e h = cc

read_ok : (word : ℕ) (rd : Rd) (read : Sym × Rd) → read_word word rd ≡ Ok read
    → (word < 1024) × (decoded word rd ≡ Ok read)
read_ok word rd read h = read_ok_by word rd read (nat_lt word 1024) refl h

-- what a reading that went well leaves to be known
abbrev Tracked : List ℕ → ℕ → Result (Sym × Rd) CodeBad → Type 0
Tracked good word result =
    MatchResult result
    (λ read. (read.0 ≡ candidate_of word) × Tracks read.1 (good ++ word ∷ []))
    (λ bad. Stuck (good ++ word ∷ []))

-- One good word more: its symbol with the key taken off stands in its place as a code.
pub good_more : (old new : Decoder) (word out : ℕ) (symbol plain : Sym) (words left : List ℕ)
    → old.fault ≡ None → new.fault ≡ old.fault → read_word word old.rd ≡ Ok (symbol, new.rd)
    → ((taken : List Sym) → HasTaken old.scrambler taken → HasTaken new.scrambler (taken ++ symbol ∷ []))
    → ((taken : List Sym) → HasTaken old.scrambler taken → plain ≡ scrambled (since_reset taken) symbol)
    → out ≡ code_of plain → symbol_of out ≡ plain → new.clock ≡ old.clock + 1
    → HasDecoded old words left → HasDecoded new (words ++ word ∷ []) (left ++ out ∷ [])
good_more old new word out symbol plain words left none same read takes key code back clock h =
    let good = h.good in
    let symbols = map candidate_of good in
    let rest_none : h.rest ≡ [] = subst (λ (x : Option LaneFault). Ends x good h.rest) none h.end in
    let both = read_ok word old.rd (symbol, new.rd) read in
    let m = subst (λ x. Tracked good word x) both.1 (tracked old.rd good word both.0 h.tracks) in
    let a : words ≡ good = h.words_are ∙ (ap (λ (x : List ℕ). good ++ x) rest_none ∙ append-nil good) in
    let b : left ≡ map code_of h.plain =
    h.left_is ∙ (ap (λ (x : List ℕ). map code_of h.plain ++ x) rest_none ∙ append-nil (map code_of h.plain)) in
    let more : map candidate_of (good ++ word ∷ []) ≡ symbols ++ symbol ∷ [] =
    map_push candidate_of good word ∙ ap (λ s. symbols ++ s ∷ []) (sym m.0) in
    let last = key symbols h.taken in
    let codes : map code_of (h.plain ++ plain ∷ []) ≡ map code_of h.plain ++ out ∷ [] =
    map_push code_of h.plain plain ∙ ap (λ n. map code_of h.plain ++ n ∷ []) (sym code) in
    record {
      good = good ++ word ∷ [];
      rest = [];
      plain = h.plain ++ plain ∷ [];
      words_are = ap (λ (x : List ℕ). x ++ word ∷ []) a ∙ sym (append-nil (good ++ word ∷ []));
      left_is =
          ap (λ (x : List ℕ). x ++ out ∷ []) b
          ∙ (sym codes ∙ sym (append-nil (map code_of (h.plain ++ plain ∷ []))));
      key =
          subst (λ xs. Keyed xs (h.plain ++ plain ∷ [])) (sym more)
          (subst (λ s. Keyed (symbols ++ symbol ∷ []) (h.plain ++ s ∷ [])) (sym last)
          (keyed_more symbols h.plain symbol h.key));
      back =
          ap (map symbol_of) codes
          ∙ (map_push symbol_of (map code_of h.plain) out
          ∙ (ap (λ xs. xs ++ symbol_of out ∷ []) h.back ∙ ap (λ s. h.plain ++ s ∷ []) back));
      tracks = m.1;
      taken = subst (λ xs. HasTaken new.scrambler xs) (sym more) (takes symbols h.taken);
      clock = clock ∙ (ap (λ (n : ℕ). n + 1) h.clock ∙ sym (length_push good word));
      end = subst (λ (x : Option LaneFault). Ends x (good ++ word ∷ []) []) (sym none ∙ sym same) refl;
    }

pub none_from : (fault : Option LaneFault) → is_some fault ≡ false → fault ≡ None
none_from None h = refl
none_from (Some fault) h = cc
