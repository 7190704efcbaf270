-- Sets that can be sent have words.
use Rattle.std.proofs.Common.{◌≡◌, ◌<◌, ℕ, zero, suc, ◌+◌, ◌-◌, ◌*◌, ◌%◌, Bool, true, false, List, [], ◌∷◌, ◌++◌, length}
use Rattle.std.proofs.Common.{map, replicate, refl, sym, subst, ◌∙◌, arith}
use Rattle.std.specs.Prelude.{slice_index_or}
use Rattle.std.specs.List.{AllByRecursion, range_with_len}
use Rattle.std.proofs.lemmas.List.FromFn.{get_or-map-range_with_len, length-map-range_with_len}
use Rattle.std.proofs.lemmas.Nat.{xor_of_8}
use Rattle.dpx_base.specs.Code.{IsSymbol, Coded}
use Rattle.dpx_base.specs.Key.{Keyed, key_byte, scrambled, since_reset}
use Rattle.dpx_base.specs.Words.{fill, Sendable, column, lane_row, words_of, LaneWords, SentWords}
use Rattle.dpx_base.specs.declared.sym.Sym.{Sym}
use Rattle.dpx_code.proofs.Lists.{coded_there}
use Rattle.dpx_lane.specs.Scrambling.{key_register}
use Rattle.dpx_lane.proofs.Keyeds.{keyed_there}
use Rattle.dpx_lane.proofs.Keys.{key_of}
use Rattle.dpx_source.specs.Framing.{AreSymbols}
use Rattle.dpx_source.proofs.SetSymbols.{on_each, fill_symbol}

symbols_join : (xs ys : List Sym) → AreSymbols xs → AreSymbols ys → AreSymbols (xs ++ ys)
symbols_join [] ys h k i = k i
symbols_join (x ∷ xs) ys h k zero = h 0
symbols_join (x ∷ xs) ys h k (suc i) = symbols_join xs ys (λ j. h (suc j)) k i

column_are : (lane : ℕ) (sets : List (List Sym)) → Sendable sets → AreSymbols (column lane sets)
column_are lane [] h k = fill_symbol
column_are lane (set ∷ sets) h zero = h 0 lane (omega arith)
column_are lane (set ∷ sets) h (suc k) = column_are lane sets (λ i l few. h (suc i) l (omega (arith, few))) k

row_are : (lanes lane : ℕ) (symbols : List Sym) → AreSymbols symbols → AreSymbols (lane_row lanes lane symbols)
row_are lanes lane symbols h =
    symbols_join (replicate (2 * lane) fill) (symbols ++ replicate (2 * (lanes - 1 - lane)) fill)
    (on_each (2 * lane) fill fill_symbol)
    (symbols_join symbols (replicate (2 * (lanes - 1 - lane)) fill) h
    (on_each (2 * (lanes - 1 - lane)) fill fill_symbol))

key_small : (m : ℕ) → key_byte m < 256
key_small m = omega (arith, key_of (key_register (8 * m)) m refl)

-- the key leaves symbols symbols
scrambled_is : (m : ℕ) (symbol : Sym) → IsSymbol symbol → IsSymbol (scrambled m symbol)
scrambled_is m symbol h = go symbol.control symbol.byte h
  where
    go : (control : Bool) (byte : ℕ) → IsSymbol (record { control = control; byte = byte })
        → IsSymbol (scrambled m (record { control = control; byte = byte }))
    go true byte k = k
    go false byte k = (xor_of_8 byte (key_byte m) k.0 (key_small m), refl)

all_are : (xs : List Sym) → ((k : ℕ) → k < length xs → IsSymbol (slice_index_or xs k fill)) → AllByRecursion IsSymbol xs
all_are [] h = tt
all_are (x ∷ xs) h = (h 0 (omega arith), all_are xs (λ k few. h (suc k) (omega (arith, few))))

keyed_are : (row keyed : List Sym) → Keyed row keyed → AreSymbols row → AllByRecursion IsSymbol keyed
keyed_are row keyed h can =
    all_are keyed (λ k few.
    let at = h.at k fill (omega (arith, few, h.size)) in
    subst IsSymbol (sym at) (scrambled_is _ (slice_index_or row k fill) (can k)))

lane_words : (lanes lane : ℕ) (symbols : List Sym) → AreSymbols symbols
    → (words : List ℕ) × LaneWords lanes lane symbols words
lane_words lanes lane symbols can =
    let row = lane_row lanes lane symbols in
    let k = keyed_there row in
    let c = coded_there false k.0 (keyed_are row k.0 k.1 (row_are lanes lane symbols can)) in
    (c.0, record { keyed = k.0; end = c.1; key = k.1; code = c.2 })

pub words_there : (lanes : ℕ) (sets : List (List Sym)) → Sendable sets
    → (words : List (List ℕ)) × SentWords lanes sets words
words_there lanes sets can =
    let lane : ℕ → List ℕ = λ l. (lane_words lanes l (column l sets) (column_are l sets can)).0 in
    let words = map lane (range_with_len 0 lanes) in (
      words,
      record {
        size = length-map-range_with_len lane 0 lanes;
        each = λ l few.
            let at : words_of words l ≡ lane l = get_or-map-range_with_len lane 0 lanes l l [] few (omega arith) in
            subst (λ (w : List ℕ). LaneWords lanes l (column l sets) w) (sym at)
            (lane_words lanes l (column l sets) (column_are l sets can)).1;
      },
    )
