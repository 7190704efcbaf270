-- An aligner goes on by the rows of the next clocks.
use Rattle.std.proofs.Common.{◌≡◌, ℕ, zero, suc, ◌<◌, ◌≤◌, ◌+◌, ◌-◌, min, List, [], ◌∷◌, length, take, map}
use Rattle.std.proofs.Common.{replicate}
use Rattle.std.proofs.Common.{refl, sym, ap, subst, ◌∙◌, arith, length-append, true, false, Option, Some, None}
use Rattle.std.proofs.Common.{slice_get}
use Rattle.std.specs.Option.{is_some}
use Rattle.std.proofs.lemmas.Bool.{false≢true}
use Rattle.dpx_base.specs.Lanes.{lanes_count}
use Rattle.dpx_base.specs.Words.{words_of}
use Rattle.dpx_base.specs.declared.sym.Sym.{Sym}
use Rattle.dpx_lane.proofs.BadWords.{fault_is}
use Rattle.dpx_lane.proofs.Teams.{team_reads}
use Rattle.dpx_lane.specs.Reading.{IsFault}
use Rattle.dpx_lane.specs.Receiving.{HasRead, ReadsRow, good_clocks}
use Rattle.dpx_lane.specs.Team.{LanesDo, TeamRead, joined}
use Rattle.dpx_lane.specs.declared.lane_fault.LaneFault.{LaneFault}
use Rattle.dpx_lane.specs.declared.lane_rx.LaneRx.{LaneRx}
use Rattle.dpx_align.specs.Aligner.{WasFed, IsFaultOf, CountedTo, place_of}
use Rattle.dpx_align.specs.Deskew.{HasTaken}
use Rattle.dpx_align.specs.Faults.{Symbols, cut}
use Rattle.dpx_align.specs.FirstFault.{FirstOf, bad_of}
use Rattle.dpx_align.specs.Search.{lengthened, decoded}
use Rattle.dpx_align.specs.declared.align_bad.AlignBad.{AlignBad}
use Rattle.dpx_align.specs.declared.aligner.Aligner.{Aligner}
use Rattle.dpx_align.proofs.FedOn.{WentOn, symbols_on}
use Rattle.dpx_align.proofs.FirstFaults.{no_fault_on, fault_on, first_fault_on, first_stays, not_before, place_is}
use Rattle.dpx_align.proofs.FirstFaults.{not_sooner, no_other}
use Rattle.dpx_align.proofs.Teams.{read_of, read_sizes, done_sizes, AllLong, AtMost, words_of-joined}
use Rattle.dpx_align.proofs.Teams.{length-joined, cut_all}
use Rattle.dpx_align.proofs.Teams.{cut_on}

read_none : (s : LaneRx) → HasRead s [] [] → good_clocks s ≤ 0
read_none s h = omega (arith, h.clock, ap length h.words_are, length-append h.good h.rest)

-- lanes that read nothing
pub at_most_none : (n : ℕ) (states : List LaneRx) → TeamRead states (replicate n []) (replicate n []) → AtMost states 0
at_most_none zero [] h j s k = cc
at_most_none zero (t ∷ states) h j s k = absurd h
at_most_none (suc n) [] h j s k = absurd h
at_most_none (suc n) (t ∷ states) h zero s k =
    let same : t ≡ s = cc in
    subst (λ (x : LaneRx). good_clocks x ≤ 0) same (read_none t h.0)
at_most_none (suc n) (t ∷ states) h (suc j) s k = at_most_none n states h.1 j s k

pub none_of : (bad : Option AlignBad) → is_some bad ≡ false → bad ≡ None
none_of None h = refl
none_of (Some bad) h = absurd (false≢true (sym h))

own_fault : (states : List LaneRx) (words left : List (List ℕ)) → TeamRead states words left → (j : ℕ) (s : LaneRx)
    → slice_get states j ≡ Some s → IsFault (words_of words j) s.decoder.fault
own_fault states words left h j s k =
    fault_is s.decoder (words_of words j) (words_of left j) (read_of states words left h j s k)

none_known : (bad : AlignBad) → Some bad ≡ None → ⊥
none_known bad e = cc

even_on : (words rows : List (List ℕ)) (fed n : ℕ) → length rows ≡ length words → AllLong words fed → AllLong rows n
    → AllLong (joined words rows) (fed + n)
even_on words rows fed n size even long j l =
    let i : j < length words = omega (arith, l, length-joined words rows size) in
    ap length (words_of-joined words rows j size i)
    ∙ omega (arith, length-append (words_of words j) (words_of rows j), even j i, long j (omega (arith, size, i)))

stays_by : (bad : Option AlignBad) (words rows : List (List ℕ)) (plain : List (List Sym)) (fed : ℕ) → is_some bad ≡ true
    → length rows ≡ length words → AllLong words fed → IsFaultOf words bad → CountedTo words bad plain
    → IsFaultOf (joined words rows) bad × CountedTo (joined words rows) bad plain
stays_by None words rows plain fed h size even f c = absurd (false≢true h)
stays_by (Some bad) words rows plain fed h size even f c =
    let lane = (place_of bad).lane in
    let clock = (place_of bad).clock in
    let front : cut clock (joined words rows) ≡ cut clock words =
    cut_on clock words rows size (λ j l. omega (arith, f.fault.bad.within, even lane f.fault.within, even j l)) in
    (first_stays words rows bad fed size even f, subst (λ (x : List (List ℕ)). Symbols x plain) (sym front) c)

lengthened_none : (plain : List (List Sym)) → lengthened plain [] ≡ plain
lengthened_none [] = refl
lengthened_none (x ∷ xs) = refl

fed_same : (a b : Aligner) (words rows : List (List ℕ)) (plain : List (List Sym)) (n : ℕ)
    → b.team ≡ a.team → b.deskew ≡ a.deskew → b.bad ≡ a.bad → b.clocks ≡ a.clocks + n → is_some a.bad ≡ true
    → length rows ≡ lanes_count a.team.lanes → AllLong rows n → WasFed a words plain
    → WasFed b (joined words rows) plain
fed_same a b words rows plain n team deskew bad clocks found count long w =
    let size : length rows ≡ length words = count ∙ sym w.size in
    let r = stays_by a.bad words rows plain a.clocks found size w.even w.fault w.counted in
    record {
      size = length-joined words rows size ∙ (w.size ∙ ap (λ t. lanes_count t.lanes) (sym team));
      even = λ j l. even_on words rows a.clocks n size w.even long j l ∙ sym clocks;
      fault = subst (λ x. IsFaultOf (joined words rows) x) (sym bad) r.0;
      counted = subst (λ x. CountedTo (joined words rows) x plain) (sym bad) r.1;
      taken = subst (λ d. HasTaken d plain) (sym deskew) w.taken;
      reads = λ e. absurd (false≢true (sym (ap is_some (sym bad ∙ e)) ∙ found));
    }

-- behind a word fault nothing changes
pub fed_stays : (a b : Aligner) (words rows : List (List ℕ)) (plain : List (List Sym)) (n : ℕ)
    → b.team ≡ a.team → b.deskew ≡ a.deskew → b.bad ≡ a.bad → b.clocks ≡ a.clocks + n → is_some a.bad ≡ true
    → length rows ≡ lanes_count a.team.lanes → AllLong rows n → WasFed a words plain
    → WasFed b (joined words rows) (lengthened plain [])
fed_stays a b words rows plain n team deskew bad clocks found count long w =
    subst (λ (x : List (List Sym)). WasFed b (joined words rows) x) (sym (lengthened_none plain))
    (fed_same a b words rows plain n team deskew bad clocks found count long w)

-- no word fault in the next clocks
pub fed_none : (a b : Aligner) (words rows outs : List (List ℕ)) (plain : List (List Sym)) (n count : ℕ)
    → b.team.lanes ≡ a.team.lanes → b.bad ≡ a.bad → a.bad ≡ None → b.clocks ≡ a.clocks + n → count ≡ n
    → LanesDo ReadsRow a.team.states rows b.team.states outs → length rows ≡ lanes_count a.team.lanes → AllLong rows n
    → ((all left : List (List ℕ)) → TeamRead b.team.states all left → FirstOf all (lanes_count b.team.lanes) None)
    → HasTaken b.deskew (lengthened plain (map (λ row. take count row) (decoded outs))) → WasFed a words plain
    → WasFed b (joined words rows) (lengthened plain (map (λ row. take count row) (decoded outs)))
fed_none a b words rows outs plain n count lanes bad none clocks all does many long first took w =
    let size : length rows ≡ length words = many ∙ sym w.size in
    let read = w.reads none in
    let left = read.0 in
    let fed = a.clocks in
    let sizes = read_sizes a.team.states words left read.1 in
    let done = done_sizes a.team.states rows b.team.states outs does in
    let after = team_reads a.team.states b.team.states words left rows outs does read.1 in
    let total = length-joined words rows size in
    let number : lanes_count b.team.lanes ≡ length (joined words rows) =
    ap lanes_count lanes ∙ (sym w.size ∙ sym total) in
    let here = first (joined words rows) (joined left outs) after in
    let sound = no_fault_on (joined words rows) (lanes_count b.team.lanes) number here in
    let went : WentOn a.team.states b.team.states words left rows outs plain fed n (fed + n) = record {
      rows_size = size;
      outs_size = done.1 ∙ sizes.0;
      even = w.even;
      rows_even = long;
      none = subst (λ x. IsFaultOf words x) none w.fault;
      symbols = subst (λ x. CountedTo words x plain) none w.counted;
      before = read.1;
      after = after;
      left_size = sizes.1;
      from = omega arith;
      within = omega arith;
      faults = λ lane s fault l k e.
          absurd (no_other (joined words rows) (lanes_count b.team.lanes) here lane (omega (arith, l, number, total))
          s.decoder.fault (own_fault b.team.states (joined words rows) (joined left outs) after lane s k) fault e);
    } in
    let symbols = symbols_on a.team.states b.team.states words left rows outs plain fed n (fed + n) went in
    let whole = cut_all (fed + n) (joined words rows)
    (λ j l. omega (arith, even_on words rows fed n size w.even long j l)) in
    let same : (fed + n) - fed ≡ count = omega (arith, all) in
    let now = lengthened plain (map (λ (row : List Sym). take count row) (decoded outs)) in
    let kept : Symbols (joined words rows) now =
    subst (λ (x : List (List ℕ)). Symbols x now) whole
    (subst (λ (k : ℕ). Symbols (cut (fed + n) (joined words rows))
    (lengthened plain (map (λ (row : List Sym). take k row) (decoded outs)))) same symbols) in
    let sum = bad ∙ none in
    record {
      size = total ∙ (w.size ∙ ap lanes_count (sym lanes));
      even = λ j l. even_on words rows fed n size w.even long j l ∙ sym clocks;
      fault = subst (λ x. IsFaultOf (joined words rows) x) (sym sum) sound;
      counted = subst (λ x. CountedTo (joined words rows) x now) (sym sum) kept;
      taken = took;
      reads = λ e. (joined left outs, after);
    }

-- the first word fault stands in the next clocks
pub fed_some : (a b : Aligner) (words rows outs : List (List ℕ)) (plain : List (List Sym)) (n next count lane : ℕ)
    (fault : LaneFault) → b.team.lanes ≡ a.team.lanes → b.bad ≡ Some (bad_of lane fault) → a.bad ≡ None
    → b.clocks ≡ a.clocks + n → next ≡ n → count ≡ min (fault.clock - a.clocks) next
    → LanesDo ReadsRow a.team.states rows b.team.states outs → length rows ≡ lanes_count a.team.lanes → AllLong rows n
    → ((all left : List (List ℕ)) → TeamRead b.team.states all left
    → FirstOf all (lanes_count b.team.lanes) (Some (lane, fault)))
    → HasTaken b.deskew (lengthened plain (map (λ row. take count row) (decoded outs))) → WasFed a words plain
    → WasFed b (joined words rows) (lengthened plain (map (λ row. take count row) (decoded outs)))
fed_some a b words rows outs plain n next count lane fault lanes bad none clocks all least does many long first took w =
    let size : length rows ≡ length words = many ∙ sym w.size in
    let read = w.reads none in
    let left = read.0 in
    let fed = a.clocks in
    let clock = fault.clock in
    let sizes = read_sizes a.team.states words left read.1 in
    let done = done_sizes a.team.states rows b.team.states outs does in
    let after = team_reads a.team.states b.team.states words left rows outs does read.1 in
    let total = length-joined words rows size in
    let number : lanes_count b.team.lanes ≡ length (joined words rows) =
    ap lanes_count lanes ∙ (sym w.size ∙ sym total) in
    let sound = subst (λ x. IsFaultOf words x) none w.fault in
    let here = first (joined words rows) (joined left outs) after in
    let stands = fault_on (joined words rows) (lanes_count b.team.lanes) (lane, fault) number here in
    let low : fed ≤ clock = not_before words rows clock lane fed size w.even sound stands in
    let high : clock < fed + n =
    omega (arith, stands.bad.within, even_on words rows fed n size w.even long lane stands.within) in
    let went : WentOn a.team.states b.team.states words left rows outs plain fed n clock = record {
      rows_size = size;
      outs_size = done.1 ∙ sizes.0;
      even = w.even;
      rows_even = long;
      none = sound;
      symbols = subst (λ x. CountedTo words x plain) none w.counted;
      before = read.1;
      after = after;
      left_size = sizes.1;
      from = low;
      within = omega (arith, high);
      faults = λ j s other l k e.
          not_sooner (joined words rows) (lanes_count b.team.lanes) (lane, fault) here j
          (omega (arith, l, number, total)) s.decoder.fault
          (own_fault b.team.states (joined words rows) (joined left outs) after j s k) other e;
    } in
    let symbols = symbols_on a.team.states b.team.states words left rows outs plain fed n clock went in
    let same : clock - fed ≡ count = omega (arith, least, all, low, high) in
    let now = lengthened plain (map (λ (row : List Sym). take count row) (decoded outs)) in
    let place : (place_of (bad_of lane fault)).clock ≡ clock =
    ap (λ p. p.clock) (place_is fault.why (record { clock = clock; lane = lane })) in
    let kept : Symbols (cut (place_of (bad_of lane fault)).clock (joined words rows)) now =
    subst (λ (k : ℕ). Symbols (cut k (joined words rows)) now) (sym place)
    (subst (λ (k : ℕ). Symbols (cut clock (joined words rows))
    (lengthened plain (map (λ (row : List Sym). take k row) (decoded outs)))) same symbols) in
    record {
      size = total ∙ (w.size ∙ ap lanes_count (sym lanes));
      even = λ j l. even_on words rows fed n size w.even long j l ∙ sym clocks;
      fault = subst (λ x. IsFaultOf (joined words rows) x) (sym bad)
          (first_fault_on (joined words rows) (lanes_count b.team.lanes) (lane, fault) number here);
      counted = subst (λ x. CountedTo (joined words rows) x now) (sym bad) kept;
      taken = took;
      reads = λ e. absurd (none_known (bad_of lane fault) (sym bad ∙ e));
    }
