-- The words of sets are there, and so are the symbols of words.
use Rattle.std.proofs.Common.{◌≡◌, ℕ, zero, suc, ◌<◌, ◌≤◌, ◌-◌, ◌*◌, ⊎_elim, Bool, true, false, not, ◌||◌}
use Rattle.std.proofs.Common.{List, [], ◌∷◌, ◌++◌, length, take, replicate, refl, sym, ap, subst, ◌∙◌, arith}
use Rattle.std.proofs.Common.{length-append}
use Rattle.std.specs.Prelude.{slice_index_or}
use Rattle.std.proofs.lemmas.List.{get_or_append_left, get_or-append_right, length-replicate, length-map}
use Rattle.std.proofs.lemmas.List.{get_or-replicate, get_or-map, get_or_default}
use Rattle.std.proofs.lemmas.Nat.{xor_of_8}
use Rattle.std.proofs.lemmas.Bool.{cases_lt}
use Rattle.dpx_base.specs.Code.{IsSymbol, word_of, next_disparity, is_control, Coded}
use Rattle.dpx_base.specs.Key.{since_reset, scrambled, key_byte, Keyed}
use Rattle.dpx_base.specs.Words.{fill, lane_row, words_of, LaneSymbols, column, LaneWords, SentWords, Sendable}
use Rattle.dpx_base.specs.declared.sym.Sym.{Sym}
use Rattle.dpx_lane.specs.Scrambling.{key_register}
use Rattle.dpx_lane.proofs.Keys.{key_of}
use Rattle.dpx_align.proofs.SentWay.{row_there}
use Rattle.dpx_align.specs.Faults.{Symbols}

tabulate : {A : Type 0} → ℕ → (ℕ → A) → List A
tabulate zero f = []
tabulate (suc n) f = f 0 ∷ tabulate n (λ j. f (suc j))

at_tabulate : {A : Type 0} (n : ℕ) (f : ℕ → A) (j : ℕ) (d : A) → j < n → slice_index_or (tabulate n f) j d ≡ f j
unfolding tabulate
at_tabulate zero f j d l = absurd (omega arith)
at_tabulate (suc n) f zero d l = refl
at_tabulate (suc n) f (suc j) d l = at_tabulate n (λ i. f (suc i)) j d (omega arith)

length-tabulate : {A : Type 0} (n : ℕ) (f : ℕ → A) → length (tabulate n f) ≡ n
unfolding tabulate
length-tabulate zero f = refl
length-tabulate (suc n) f = ap suc (length-tabulate n (λ i. f (suc i)))

key_small : (m : ℕ) → key_byte m < 256
key_small m =
    let e = key_of (key_register (8 * m)) m refl in
    subst (λ (n : ℕ). n < 256) e (omega arith)

scrambled_symbol_by : (m : ℕ) (c : Bool) (b : ℕ) → b < 256 → (not c || is_control b) ≡ true
    → IsSymbol (scrambled m (record { control = c; byte = b }))
scrambled_symbol_by m true b l h = (l, h)
scrambled_symbol_by m false b l h = (xor_of_8 b (key_byte m) l (key_small m), refl)

scrambled_symbol : (m : ℕ) (s : Sym) → IsSymbol s → IsSymbol (scrambled m s)
scrambled_symbol m s h = scrambled_symbol_by m s.control s.byte h.0 h.1

-- a row with the key on it
keyed_row : List Sym → List Sym
keyed_row row = tabulate (length row) (λ k. scrambled (since_reset (take k row)) (slice_index_or row k fill))

keyed : (row : List Sym) → Keyed row (keyed_row row)
unfolding keyed_row
keyed row =
    let f : ℕ → Sym = λ k. scrambled (since_reset (take k row)) (slice_index_or row k fill) in
    record {
      size = length-tabulate (length row) f;
      at = λ k d l.
          at_tabulate (length row) f k d l
          ∙ ap (scrambled (since_reset (take k row))) (get_or_default row k fill d l);
    }

AllSymbols : List Sym → Type 0
AllSymbols ss = (k : ℕ) → k < length ss → IsSymbol (slice_index_or ss k fill)

keyed_symbols : (ss : List Sym) → AllSymbols ss → AllSymbols (keyed_row ss)
unfolding AllSymbols
keyed_symbols ss h k l =
    let e = keyed ss in
    let i : k < length ss = omega (arith, e.size) in
    subst (λ (s : Sym). IsSymbol s) (sym (e.at k fill i))
    (scrambled_symbol (since_reset (take k ss)) (slice_index_or ss k fill) (h k i))

record Written (p : Bool) (ss : List Sym) : Type 0 where
  words : List ℕ
  end : Bool
  code : Coded p ss words end

written : (p : Bool) (ss : List Sym) → AllSymbols ss → Written p ss
unfolding AllSymbols
written p [] h = record { words = []; end = p; code = refl }
written p (s ∷ ss) h =
    let w = word_of s.control s.byte p in
    let n = next_disparity w p in
    let r = written n ss (λ k l. h (suc k) (omega arith)) in
    record { words = w ∷ r.words; end = r.end; code = (n, (h 0 (omega arith), refl, refl), r.code) }

row_symbols : (lanes j : ℕ) (ss : List Sym) → AllSymbols ss → AllSymbols (lane_row lanes j ss)
unfolding AllSymbols
row_symbols lanes j ss h k l =
    let a = replicate (2 * j) fill in
    let c = replicate (2 * ((lanes - 1) - j)) fill in
    let n = length-replicate (2 * j) fill in
    let m = length-replicate (2 * ((lanes - 1) - j)) fill in
    let size = length-append a (ss ++ c) in
    let size2 = length-append ss c in
    ⊎_elim
    (λ (x : k < 2 * j).
    let e : slice_index_or (a ++ (ss ++ c)) k fill ≡ fill =
    get_or_append_left a (ss ++ c) fill k (omega arith) ∙ get_or-replicate (2 * j) k fill fill x in
    subst (λ (s : Sym). IsSymbol s) (sym e) (omega arith, refl))
    (λ (x : 2 * j ≤ k).
    let i = k - 2 * j in
    let e = get_or-append_right a (ss ++ c) (2 * j) k fill n x in
    subst (λ (s : Sym). IsSymbol s) (sym e)
    (⊎_elim
    (λ (y : i < length ss). subst (λ (s : Sym). IsSymbol s) (sym (get_or_append_left ss c fill i y)) (h i y))
    (λ (y : length ss ≤ i).
    let f : slice_index_or (ss ++ c) i fill ≡ fill =
    get_or-append_right ss c (length ss) i fill refl y
    ∙ get_or-replicate (2 * ((lanes - 1) - j)) (i - length ss) fill fill (omega arith) in
    subst (λ (s : Sym). IsSymbol s) (sym f) (omega arith, refl))
    (cases_lt i (length ss))))
    (cases_lt k (2 * j))

lane_written : (lanes j : ℕ) (sets : List (List Sym)) → Sendable sets
    → Written false (keyed_row (lane_row lanes j (column j sets)))
unfolding AllSymbols
lane_written lanes j sets h =
    written false (keyed_row (lane_row lanes j (column j sets)))
    (keyed_symbols (lane_row lanes j (column j sets))
    (row_symbols lanes j (column j sets)
    (λ k l.
    let i : k < length sets = omega (arith, length-map sets (λ (set : List Sym). slice_index_or set j fill)) in
    subst (λ (s : Sym). IsSymbol s) (sym (get_or-map (λ (set : List Sym). slice_index_or set j fill) sets k [] fill i))
    (h k j i))))

-- every list of sets has its words
pub words_there : (lanes : ℕ) (sets : List (List Sym)) → Sendable sets
    → (words : List (List ℕ)) × SentWords lanes sets words
words_there lanes sets h =
    let f : ℕ → List ℕ = λ j. (lane_written lanes j sets h).words in (
      tabulate lanes f,
      record {
        size = length-tabulate lanes f;
        each = λ j l.
            let row = lane_row lanes j (column j sets) in
            let w = lane_written lanes j sets h in
            subst (λ (ws : List ℕ). LaneWords lanes j (column j sets) ws) (sym (at_tabulate lanes f j [] l))
            (record {
              keyed = keyed_row row;
              end = w.end;
              key = keyed row;
              code = w.code;
            });
      },
    )

-- and the words their symbols
pub symbols_there : (lanes : ℕ) (sets : List (List Sym)) (words : List (List ℕ)) → SentWords lanes sets words
    → (plain : List (List Sym)) × Symbols words plain
symbols_there lanes sets words s =
    let f : ℕ → List Sym = λ j. lane_row lanes j (column j sets) in (
      tabulate lanes f,
      record {
        size = length-tabulate lanes f ∙ sym s.size;
        each = λ j l.
            let i : j < lanes = omega (arith, s.size) in
            subst (λ (x : List Sym). LaneSymbols (words_of words j) x) (sym (at_tabulate lanes f j [] i))
            (row_there lanes j (column j sets) (words_of words j) (s.each j i));
      },
    )
