-- The end of bytes without a fault.
use Rattle.std.proofs.Common.{ℕ, ◌≡◌, ◌∙◌, ◌*◌, ◌/◌, ◌%◌, List, length, Result, Ok, Err, sym, ap, subst, arith}
use Rattle.std.proofs.lemmas.Nat.{div-mul-add, mod-mul-add}
use Rattle.dpx_align.specs.Aligner.{clocks_fed}
use Rattle.dpx_align.specs.Faults.{NoFault, Symbols, cut}
use Rattle.dpx_base.specs.Lanes.{lanes_count}
use Rattle.dpx_base.specs.declared.sym.Sym.{Sym}
use Rattle.dpx_parse.specs.Stands.{number_of}
use Rattle.dpx_reception.proofs.FaultsStay.{whole_same}
use Rattle.dpx_reception.proofs.Grown.{some_lanes}
use Rattle.dpx_reception.specs.Bytes.{clocks_in, left_over, received_words}
use Rattle.dpx_sink.specs.Clocks.{HasTaken, framing_of}
use Rattle.dpx_sink.specs.Reader.{ReadEnds, Counted}
use Rattle.dpx_sink.specs.Receiver.{EndsAs, Counts}
use Rattle.dpx_sink.specs.declared.clocks.Clocks.{Clocks}
use Rattle.dpx_sink.specs.declared.finish_end.FinishEnd.{FinishEnd}
use Rattle.dpx_sink.specs.declared.finish_end.FinishEnd.TheVariants.{Truncated, NoLock}
use Rattle.dpx_sink.specs.declared.finish_end.Received.{Received}
use Rattle.dpx_sink.proofs.FrontsDue.{frames_told, words_of_cut}

-- the whole clocks of the bytes, and what is left of an unfinished one
pub at_end : (c : Clocks) (bytes records text : List ℕ) → HasTaken c bytes records text
    → (clocks_in (lanes_count c.link.lanes) bytes ≡ c.clocks)
    × (left_over (lanes_count c.link.lanes) bytes ≡ length c.left.items)
unfolding clocks_in left_over
at_end c bytes records text h =
    let wide : ℕ = 2 * lanes_count c.link.lanes in (
      ap (λ k. k / wide) (sym h.fed) ∙ div-mul-add c.clocks wide (length c.left.items) h.cut.short,
      ap (λ k. k % wide) (sym h.fed) ∙ mod-mul-add c.clocks wide (length c.left.items) h.cut.short,
    )

counted_of : (c : Clocks) (bytes records text : List ℕ) (h : HasTaken c bytes records text) (plain : List (List Sym))
    (received : Received) → NoFault (received_words (lanes_count c.link.lanes) bytes)
    → Symbols (received_words (lanes_count c.link.lanes) bytes) plain
    → Counted (framing_of c.link) (received_words (lanes_count c.link.lanes) h.done) plain received
    → Counts c.link bytes received
counted_of c bytes records text h plain received none symbols k =
    let lanes = lanes_count c.link.lanes in
    let words = received_words lanes bytes in
    let f = frames_told (framing_of c.link) k.sets k.records k.text k.under k.tally k.tell in
    let whole : cut (clocks_in lanes bytes) words ≡ words =
    whole_same lanes bytes (clocks_in lanes bytes) (omega arith) in
    record {
      frames = f.frames;
      tail = f.tail;
      reception = record {
        sets = k.sets;
        up_to = record {
          no_fault = subst (λ (x : List (List ℕ)). NoFault x) (sym whole) none;
          plain = plain;
          symbols = subst (λ (x : List (List ℕ)). Symbols x plain) (sym whole) symbols;
          sets = k.are_sets;
        };
        accepted = f.accepted;
      };
      frames_are = k.frames ∙ ap number_of f.frames_counted;
      lines_are = k.lines ∙ ap number_of f.lines_counted;
      tail_is = k.tail f.frames f.tail f.accepted;
    }

-- the end of the words that were read is that of the bytes
pub read_ends : (c : Clocks) (bytes records text : List ℕ) (h : HasTaken c bytes records text)
    (result : Result Received FinishEnd) → length c.left.items ≡ 0 → clocks_fed c.reader.aligner ≡ c.clocks
    → ReadEnds (framing_of c.link) (received_words (lanes_count c.link.lanes) h.done)
    (clocks_fed c.reader.aligner) result
    → EndsAs c.link bytes result
read_ends c bytes records text h (Err (Truncated clock left)) none fed r = absurd r
read_ends c bytes records text h (Err (NoLock stood)) none fed (plain, symbols, lock, stood_is) =
    let lanes = lanes_count c.link.lanes in
    let e = words_of_cut lanes bytes h.done c.left.items (some_lanes c.link.lanes) h.cut in
    let at = at_end c bytes records text h in (
      at.1 ∙ none,
      record {
        no_fault = subst (λ (x : List (List ℕ)). NoFault x) e h.read.no_fault;
        plain = plain;
        symbols = subst (λ (x : List (List ℕ)). Symbols x plain) e symbols;
        lock_is = lock;
      },
      stood_is ∙ (fed ∙ sym at.0),
    )
read_ends c bytes records text h (Ok received) none fed (plain, clock, symbols, lock, counted) =
    let lanes = lanes_count c.link.lanes in
    let e = words_of_cut lanes bytes h.done c.left.items (some_lanes c.link.lanes) h.cut in
    let at = at_end c bytes records text h in
    let sound = subst (λ (x : List (List ℕ)). NoFault x) e h.read.no_fault in
    let all = subst (λ (x : List (List ℕ)). Symbols x plain) e symbols in (
      at.1 ∙ none,
      (clock, record { no_fault = sound; plain = plain; symbols = all; lock_is = lock }),
      counted_of c bytes records text h plain received sound all counted,
    )
