-- What an aligner was fed, as clocks are added.
use Rattle.std.proofs.Common.{◌≡◌, ℕ, ◌<◌, ◌≤◌, ◌+◌, ◌-◌, ◌++◌, List, [], length, take, map}
use Rattle.std.proofs.Common.{sym, ap, subst, ◌∙◌, arith, length-append, Some, slice_get}
use Rattle.std.proofs.lemmas.List.{get_or-map, length-map, take-map}
use Rattle.dpx_base.specs.Words.{words_of, LaneSymbols}
use Rattle.dpx_base.specs.declared.sym.Sym.{Sym}
use Rattle.dpx_lane.proofs.BadWords.{is_reading}
use Rattle.dpx_lane.specs.Codes.{symbol_of}
use Rattle.dpx_lane.specs.Receiving.{HasRead}
use Rattle.dpx_lane.specs.Team.{TeamRead, joined}
use Rattle.dpx_lane.specs.declared.lane_fault.LaneFault.{LaneFault}
use Rattle.dpx_lane.specs.declared.lane_rx.LaneRx.{LaneRx}
use Rattle.dpx_align.specs.Faults.{NoFault, Symbols, cut}
use Rattle.dpx_align.specs.Lock.{lane_of}
use Rattle.dpx_align.specs.Search.{lengthened, decoded}
use Rattle.dpx_align.proofs.LaneSymbols.{symbols_more, all_read, good_until}
use Rattle.dpx_align.proofs.LockStays.{lane_of-lengthened, length-lengthened}
use Rattle.dpx_align.proofs.Seeking.{lane_of-map}
use Rattle.dpx_align.proofs.Taking.{lane_of-decoded, length-decoded}
use Rattle.dpx_align.proofs.Teams.{read_at, words_of-joined, length-joined, AllLong}

-- A team that read these words, none of them bad, went on by rows; before this clock no lane has a fault.
pub record WentOn (old new : List LaneRx) (words left rows outs : List (List ℕ)) (plain : List (List Sym))
    (fed next clock : ℕ)
    : Type 0 where
  pub rows_size : length rows ≡ length words
  pub outs_size : length outs ≡ length words
  pub even : (j : ℕ) → j < length words → length (words_of words j) ≡ fed
  pub rows_even : AllLong rows next
  pub none : NoFault words
  pub symbols : Symbols words plain
  pub before : TeamRead old words left
  pub after : TeamRead new (joined words rows) (joined left outs)
  pub left_size : length left ≡ length words
  pub from : fed ≤ clock
  pub within : clock ≤ fed + next
  pub faults : (lane : ℕ) (s : LaneRx) (fault : LaneFault) → lane < length words → slice_get new lane ≡ Some s
      → s.decoder.fault ≡ Some fault → clock ≤ fault.clock

lane_symbols : (old new : List LaneRx) (words left rows outs : List (List ℕ)) (plain : List (List Sym))
    (fed next clock : ℕ)
    → WentOn old new words left rows outs plain fed next clock → (j : ℕ) → j < length words
    → LaneSymbols (take clock (words_of words j ++ words_of rows j))
    (lane_of plain j ++ map symbol_of (take (clock - fed) (words_of outs j)))
lane_symbols old new words left rows outs plain fed next clock w j l =
    let ws = words_of words j in
    let row = words_of rows j in
    let ls = words_of left j in
    let out = words_of outs j in
    let a = read_at old words left w.before j l in
    let o = is_reading a.0.decoder ws ls a.2 in
    let rest = all_read ws ls a.0.decoder.fault o (λ t b. w.none j t l b) in
    let size = length-joined words rows w.rows_size in
    let b = read_at new (joined words rows) (joined left outs) w.after j (omega (arith, size, l)) in
    let words_are = words_of-joined words rows j w.rows_size l in
    let left_are = words_of-joined left outs j (w.outs_size ∙ sym w.left_size) (omega (arith, w.left_size, l)) in
    let read : HasRead b.0 (ws ++ row) (ls ++ out) =
    subst (λ (x : List ℕ). HasRead b.0 (ws ++ row) x) left_are
    (subst (λ (x : List ℕ). HasRead b.0 x (words_of (joined left outs) j)) words_are b.2) in
    let n = is_reading b.0.decoder (ws ++ row) (ls ++ out) read in
    let long : clock ≤ length (ws ++ row) =
    omega (arith, length-append ws row, w.even j l, w.rows_even j (omega (arith, w.rows_size, l)), w.within) in
    let good = good_until (ws ++ row) (ls ++ out) b.0.decoder.fault n clock long (λ fault e. w.faults j b.0 fault l b.1 e) in
    let all = symbols_more ws row ls out (lane_of plain j) a.0.decoder.fault b.0.decoder.fault clock (w.symbols.each j l) o rest n
    (omega (arith, w.even j l, w.from)) good in
    subst (λ (k : ℕ). LaneSymbols (take clock (ws ++ row)) (lane_of plain j ++ map symbol_of (take (clock - k) out)))
    (w.even j l) all

-- the symbols of the clocks before that one: those so far, and those of the codes that the team left
pub symbols_on : (old new : List LaneRx) (words left rows outs : List (List ℕ)) (plain : List (List Sym))
    (fed next clock : ℕ)
    → WentOn old new words left rows outs plain fed next clock
    → Symbols (cut clock (joined words rows)) (lengthened plain (map (λ row. take (clock - fed) row) (decoded outs)))
symbols_on old new words left rows outs plain fed next clock w =
    let k = clock - fed in
    let all = joined words rows in
    let more = map (λ (row : List Sym). take k row) (decoded outs) in
    let size = length-joined words rows w.rows_size in
    let cut_size = length-map all (λ (row : List ℕ). take clock row) in
    record {
      size = length-lengthened plain more ∙ (w.symbols.size ∙ sym (cut_size ∙ size));
      each = λ j m.
          let l : j < length words = omega (arith, cut_size, size, m) in
          let o : j < length outs = omega (arith, w.outs_size, l) in
          let a : words_of (cut clock all) j ≡ take clock (words_of words j ++ words_of rows j) =
          get_or-map (λ (row : List ℕ). take clock row) all j [] [] (omega (arith, size, l))
          ∙ ap (take clock) (words_of-joined words rows j w.rows_size l) in
          let b : lane_of more j ≡ map symbol_of (take k (words_of outs j)) =
          lane_of-map (λ (row : List Sym). take k row) (decoded outs) j (omega (arith, length-decoded outs, o))
          ∙ (ap (take k) (lane_of-decoded outs j o) ∙ take-map symbol_of k (words_of outs j)) in
          let c : lane_of (lengthened plain more) j ≡ lane_of plain j ++ map symbol_of (take k (words_of outs j)) =
          lane_of-lengthened plain more j (omega (arith, w.symbols.size, l))
          ∙ ap (λ (x : List Sym). lane_of plain j ++ x) b in
          subst (λ (x : List ℕ). LaneSymbols x (lane_of (lengthened plain more) j)) (sym a)
          (subst (λ (x : List Sym). LaneSymbols (take clock (words_of words j ++ words_of rows j)) x) (sym c)
          (lane_symbols old new words left rows outs plain fed next clock w j l));
    }
