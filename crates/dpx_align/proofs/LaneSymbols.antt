-- A lane's symbols, as its words go on.
use Rattle.std.proofs.Common.{◌≡◌, ℕ, zero, suc, ◌<◌, ◌≤◌, ◌+◌, ◌-◌, inl, inr, ⊎_elim, List, [], ◌∷◌, ◌++◌, length}
use Rattle.std.proofs.Common.{take, map}
use Rattle.std.proofs.Common.{refl, sym, ap, subst, ◌∙◌, arith, append-nil, length-append, Option, Some, None}
use Rattle.std.specs.Prelude.{slice_index_or}
use Rattle.std.proofs.lemmas.List.{map-append, take-map, length-map, take-append-le, get_or_append_left}
use Rattle.dpx_base.specs.Code.{Listed}
use Rattle.dpx_base.specs.Key.{Keyed}
use Rattle.dpx_base.specs.Words.{BadAt, NoneBad, LaneSymbols}
use Rattle.dpx_base.specs.declared.sym.Sym.{Sym}
use Rattle.dpx_code.proofs.Lists.{coded_map, coded_length, coded_front}
use Rattle.dpx_lane.proofs.Keyeds.{keyed_once, keyed_front}
use Rattle.dpx_lane.specs.Codes.{code_of, symbol_of}
use Rattle.dpx_lane.specs.Reading.{IsFault}
use Rattle.dpx_lane.specs.Receiving.{IsReading}
use Rattle.dpx_lane.specs.declared.lane_fault.LaneFault.{LaneFault}

-- words have one list of symbols
pub symbols_once : (words : List ℕ) (a b : List Sym) → LaneSymbols words a → LaneSymbols words b → a ≡ b
symbols_once words a b h k =
    let e : k.coded ≡ h.coded =
    coded_map k.from k.coded words k.end k.code ∙ sym (coded_map h.from h.coded words h.end h.code) in
    keyed_once h.coded a b h.key (subst (λ (x : List Sym). Keyed x b) e k.key)

pub symbols_length : (words : List ℕ) (plain : List Sym) → LaneSymbols words plain → length plain ≡ length words
symbols_length words plain h = h.key.size ∙ coded_length h.from h.coded words h.end h.code

pub symbols_front : (n : ℕ) (words : List ℕ) (plain : List Sym) → n ≤ length words → LaneSymbols words plain
    → LaneSymbols (take n words) (take n plain)
symbols_front n words plain l h =
    let f = coded_front n h.from h.coded words h.end h.code in
    record {
      from = h.from;
      coded = take n h.coded;
      end = f.0;
      code = f.1;
      key = keyed_front n h.coded plain (omega (arith, l, coded_length h.from h.coded words h.end h.code)) h.key;
    }

take_past : (n : ℕ) (xs ys : List ℕ) → length xs ≤ n → take n (xs ++ ys) ≡ xs ++ take (n - length xs) ys
take_past n [] ys l = ap (λ (k : ℕ). take k ys) (omega arith)
take_past zero (x ∷ xs) ys l = absurd (omega arith)
take_past (suc n) (x ∷ xs) ys l =
    let e : suc n - suc (length xs) ≡ n - length xs = omega arith in
    ap (λ (zs : List ℕ). x ∷ zs) (take_past n xs ys (omega arith) ∙ ap (λ (k : ℕ). xs ++ take k ys) (sym e))

-- The symbols up to a clock that is not past the good words: those so far, and those of the codes that were left.
pub symbols_more : (ws row ls out : List ℕ) (plain : List Sym) (f g : Option LaneFault) (clock : ℕ)
    → LaneSymbols ws plain → (o : IsReading ws ls f) → o.rest ≡ [] → (n : IsReading (ws ++ row) (ls ++ out) g)
    → length ws ≤ clock → clock ≤ length n.good
    → LaneSymbols (take clock (ws ++ row)) (plain ++ map symbol_of (take (clock - length ws) out))
symbols_more ws row ls out plain f g clock h o e n l m =
    let k = clock - length ws in
    let a : ws ≡ o.good = o.words_are ∙ (ap (λ (x : List ℕ). o.good ++ x) e ∙ append-nil o.good) in
    let b : ls ≡ map code_of o.plain =
    o.left_is ∙ (ap (λ (x : List ℕ). map code_of o.plain ++ x) e ∙ append-nil (map code_of o.plain)) in
    let same : o.plain ≡ plain =
    symbols_once ws o.plain plain (subst (λ (x : List ℕ). LaneSymbols x o.plain) (sym a) o.symbols) h in
    let back : map symbol_of ls ≡ plain = ap (map symbol_of) b ∙ (o.back ∙ same) in
    let size : length ls ≡ length ws =
    omega (arith, ap length b, length-map o.plain code_of, ap length same, symbols_length ws plain h) in
    let codes = map code_of n.plain in
    let long : clock ≤ length codes =
    omega (arith, length-map n.plain code_of, symbols_length n.good n.plain n.symbols, m) in
    let front : take clock (ls ++ out) ≡ take clock codes =
    ap (take clock) n.left_is ∙ take-append-le clock codes n.rest long in
    let split : take clock (ls ++ out) ≡ ls ++ take k out =
    take_past clock ls out (omega (arith, size, l)) ∙ ap (λ (i : ℕ). ls ++ take (clock - i) out) size in
    let all : take clock n.plain ≡ plain ++ map symbol_of (take k out) =
    ap (take clock) (sym n.back)
    ∙ (take-map symbol_of clock codes
    ∙ (ap (map symbol_of) (sym front ∙ split)
    ∙ (map-append symbol_of ls (take k out)
    ∙ ap (λ (x : List Sym). x ++ map symbol_of (take k out)) back))) in
    let words : take clock (ws ++ row) ≡ take clock n.good =
    ap (take clock) n.words_are ∙ take-append-le clock n.good n.rest m in
    subst (λ (x : List Sym). LaneSymbols (take clock (ws ++ row)) x) all
    (subst (λ (x : List ℕ). LaneSymbols x (take clock n.plain)) (sym words)
    (symbols_front clock n.good n.plain m n.symbols))

-- where no word is bad, all were read
pub all_read : (ws ls : List ℕ) (f : Option LaneFault) (r : IsReading ws ls f) → NoneBad ws → r.rest ≡ []
all_read ws ls None r none = r.whole refl
all_read ws ls (Some fault) r none = absurd (none fault.clock r.is_fault.0.bad)

-- the words before a clock that is not past the fault are good
pub good_until : (ws ls : List ℕ) (f : Option LaneFault) (r : IsReading ws ls f) (clock : ℕ) → clock ≤ length ws
    → ((fault : LaneFault) → f ≡ Some fault → clock ≤ fault.clock) → clock ≤ length r.good
good_until ws ls None r clock l h =
    let e : ws ≡ r.good = r.words_are ∙ (ap (λ (x : List ℕ). r.good ++ x) (r.whole refl) ∙ append-nil r.good) in
    omega (arith, l, ap length e)
good_until ws ls (Some fault) r clock l h = omega (arith, h fault refl, r.cut fault refl)

-- no word before a clock that is not past the fault is bad
pub none_until : (ws : List ℕ) (f : Option LaneFault) → IsFault ws f → (clock before : ℕ)
    → ((fault : LaneFault) → f ≡ Some fault → clock ≤ fault.clock) → before < clock → BadAt ws before → ⊥
none_until ws None i clock before h l b = i before b
none_until ws (Some fault) i clock before h l b = i.0.first before (omega (arith, h fault refl, l)) b

-- whether a word is bad does not rest on those behind it
pub bad_back : (ws more : List ℕ) (t : ℕ) → t < length ws → BadAt (ws ++ more) t → BadAt ws t
bad_back ws more t l b =
    let e = get_or_append_left ws more 0 t l in
    let f = take-append-le (t + 1) ws more (omega arith) in
    record {
      within = l;
      bad = ⊎_elim
          (λ (k : 1024 ≤ slice_index_or (ws ++ more) t 0). inl (subst (λ (n : ℕ). 1024 ≤ n) e k))
          (λ (k : Listed (take (t + 1) (ws ++ more)) → ⊥).
          inr (λ (x : Listed (take (t + 1) ws)). k (subst (λ (y : List ℕ). Listed y) (sym f) x)))
          b.bad;
    }

pub bad_on : (ws more : List ℕ) (t : ℕ) → BadAt ws t → BadAt (ws ++ more) t
bad_on ws more t b =
    let l = b.within in
    let e = get_or_append_left ws more 0 t l in
    let f = take-append-le (t + 1) ws more (omega arith) in
    record {
      within = omega (arith, l, length-append ws more);
      bad = ⊎_elim
          (λ (k : 1024 ≤ slice_index_or ws t 0). inl (subst (λ (n : ℕ). 1024 ≤ n) (sym e) k))
          (λ (k : Listed (take (t + 1) ws) → ⊥).
          inr (λ (x : Listed (take (t + 1) (ws ++ more))). k (subst (λ (y : List ℕ). Listed y) f x)))
          b.bad;
    }
