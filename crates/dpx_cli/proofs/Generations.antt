-- A number's frames, sent into memory and received from it.
use Rattle.std.proofs.Common.{◌≡◌, ◌≢◌, ℕ, ◌+◌, ◌*◌, ◌^◌, ◌≤◌, ◌<◌, List, [], ◌∷◌, ◌++◌, length, length-drop, take, drop, ◌-◌, refl, sym, ap, ◌∙◌, subst, arith}
use Rattle.std.proofs.Common.{Bool, true, false, leb, Option, Some, None, Result, Ok, Err, append_assoc}
use Rattle.std.specs.Prelude.{⊤}
use Rattle.std.specs.List.{AllByRecursion}
use Rattle.std.proofs.lemmas.Bool.{false_from_ne_true, leb-true}
use Rattle.std.proofs.lemmas.List.{append-nil, take_all}
use Rattle.dpx_base.specs.declared.link.Link.{Link}
use Rattle.dpx_base.specs.declared.pixel.Pixel.{Pixel}
use Rattle.dpx_base.specs.Capture.{IsCapture, capture_clocks, header_bytes, word_bytes}
use Rattle.dpx_base.specs.Lanes.{lanes_count}
use Rattle.dpx_base.specs.Mode.{depth_bits}
use Rattle.dpx_base.specs.Plan.{PlanFacts}
use Rattle.dpx_base.specs.Seen.{SinkInMemory, SinkSeen}
use Rattle.dpx_base.specs.Unpacking.{InRange}
use Rattle.dpx_files.specs.Generator.{gen_link, gen_pixels, gen_plan, gen_shape}
use Rattle.dpx_files.specs.GenPipe.{PipeOfNumber, told_of}
use Rattle.dpx_files.specs.Laws.{FramesAreWhole, FramesFit, PixelsAreInRange}
use Rattle.dpx_inversion.specs.Laws.{AreWhole}
use Rattle.dpx_reception.specs.Laws.{CapturesAreReceived}
use Rattle.dpx_align.specs.declared.align_bad.AlignBad.{AlignBad}
use Rattle.dpx_parse.specs.declared.bad.ParseBad.{ParseBad}
use Rattle.dpx_reception.specs.Due.{Due, pixel_records}
use Rattle.dpx_reception.specs.Reception.{Fault, no_fault, set_fault, word_fault}
use Rattle.dpx_sink.specs.declared.finish_end.FinishEnd.{FinishEnd}
use Rattle.dpx_sink.specs.declared.finish_end.Received.{Received}
use Rattle.dpx_sink.specs.declared.receiver.Receiver.{Receiver}
use Rattle.dpx_sink.specs.declared.recv_end.RecvEnd.{RecvEnd}
use Rattle.dpx_sink.specs.declared.recv_end.RecvEnd.TheVariants as recv
use Rattle.dpx_sink.specs.Laws.{CaptureIsWritten, CapturesAreWritten, all_of}
use Rattle.dpx_sink.specs.Receiver.{EndsAs, Feeds, StandsFor, link_of}
use Rattle.dpx_sink.specs.Writes.{Sinks, Wrote, sinks}
use Rattle.dpx_source.specs.Drive.{IsWhole, pixel_count}
use Rattle.dpx_source.specs.Pixels.{bad_value, first_bad}
use Rattle.dpx_cli.specs.declared.stop.Stop.{Stop}
use Rattle.dpx_cli.specs.declared.stop.Stop.TheVariants as stop
use Rattle.dpx_cli.specs.Generating.{GoesRound, IsForMemory}
use Rattle.dpx_cli.specs.Sending.{WritesCapture}
use Rattle.dpx_cli.specs.Step.{◌⇒◌}

-- what holds of a number's frames, and of what is received of them
pub record NumberLaws : Type 0 where
  pub fit : FramesFit
  pub count : FramesAreWhole
  pub in_range : PixelsAreInRange
  pub received : CapturesAreReceived

abbrev seen : SinkInMemory → SinkSeen
seen sink = record { taken = Some sink.taken; faults = sink.faults }

-- a pixel within the depth has no bad component
not_above : (depth value : ℕ) → value < 2 ^ depth → leb (2 ^ depth) value ≡ false
not_above depth value small = false_from_ne_true _ (λ e. absurd (omega (arith, small, leb-true (2 ^ depth) value e)))

no_bad_value : (depth : ℕ) (pixel : Pixel) → InRange depth pixel → bad_value depth pixel ≡ None
no_bad_value depth pixel i =
    rw (not_above depth pixel.r i.r, not_above depth pixel.g i.g, not_above depth pixel.b i.b) refl

none_bad : (depth number : ℕ) (pixels : List Pixel) → AllByRecursion (InRange depth) pixels
    → first_bad depth number pixels ≡ None
none_bad depth number [] all = refl
none_bad depth number (pixel ∷ pixels) all =
    rw (no_bad_value depth pixel all.0) (none_bad depth (number + 1) pixels all.1)

module _ (laws : NumberLaws) (seed : ℕ) where
  pub are_whole : AreWhole (gen_plan seed) (gen_pixels seed)
  are_whole = record { count = laws.count seed; in_range = laws.in_range seed }

  is_whole : IsWhole (gen_plan seed) (gen_pixels seed)
  is_whole =
      let all : take (pixel_count (gen_plan seed)) (gen_pixels seed) ≡ gen_pixels seed =
      take_all (pixel_count (gen_plan seed)) (gen_pixels seed) (omega (arith, laws.count seed)) in
      record {
        there = omega (arith, laws.count seed);
        good =
            ap (λ xs. first_bad (depth_bits (gen_plan seed).mode.depth) 0 xs) all
            ∙ none_bad (depth_bits (gen_plan seed).mode.depth) 0 (gen_pixels seed) (laws.in_range seed);
      }

  -- the capture goes round
  pub goes_round : (bytes : List ℕ) → IsCapture (gen_plan seed) (gen_pixels seed) bytes → GoesRound seed bytes
  goes_round bytes is =
      let behind = word_bytes (lanes_count (gen_link seed).lanes) (capture_clocks (gen_plan seed)) is.words in
      record {
        capture = is;
        behind = behind;
        headed = is.bytes_are;
        received =
            laws.received (gen_plan seed) (gen_pixels seed) behind (laws.fit seed) are_whole
            (subst (λ (bytes : List ℕ). IsCapture (gen_plan seed) (gen_pixels seed) bytes) is.bytes_are is);
      }

  -- how the capture is written of a pipe that has the number's pixels, into memory
  module _ (plan : PlanFacts) (before now : PipeOfNumber) (sink after : SinkInMemory) (Kept : Type 0)
      (of_plan : plan ≡ gen_plan seed) (of_seed : before.seed ≡ seed) (result : Result ⊤ Stop)
      (wrote : WritesCapture plan (told_of before ⇒ told_of now) (seen sink ⇒ seen after) Kept result) where
    abbrev Writes : Result ⊤ Stop → Type 0
    Writes done = WritesCapture (gen_plan seed) (told_of before ⇒ told_of now) (seen sink ⇒ seen after) Kept done

    writes : (done : Result ⊤ Stop) → result ≡ done → Writes done
    writes done is =
        subst (λ (p : PlanFacts). WritesCapture p (told_of before ⇒ told_of now) (seen sink ⇒ seen after) Kept done) of_plan
        (subst (λ (r : Result ⊤ Stop). WritesCapture plan (told_of before ⇒ told_of now) (seen sink ⇒ seen after) Kept r) is
        wrote)

    pub wrote_capture : sink.taken ≡ [] → result ≡ Ok tt → GoesRound seed after.taken
    wrote_capture empty is =
        let all = (writes (Ok tt) is).0 in
        let bytes : after.taken ≡ all.bytes = all.taken ∙ ap (λ xs. xs ++ all.bytes) empty in
        let capture = subst (λ (n : ℕ). IsCapture (gen_plan seed) (gen_pixels n) all.bytes) of_seed all.capture in
        goes_round after.taken
        (subst (λ (xs : List ℕ). IsCapture (gen_plan seed) (gen_pixels seed) xs) (sym bytes) capture)

    not_short : (IsWhole (gen_plan seed) (gen_pixels before.seed) → ⊥) → ⊥
    not_short none = none (subst (λ (n : ℕ). IsWhole (gen_plan seed) (gen_pixels n)) (sym of_seed) is_whole)

    none_but_memory : (stop : Stop) → Writes (Err stop) → IsForMemory stop
    none_but_memory stop.WriteFault w = tt
    none_but_memory stop.NoMemory w = tt
    none_but_memory (stop.BadPixel number value) (some, pipe_calm, pix_calm, cause) = absurd (not_short cause.1)
    none_but_memory (stop.PixelsEnded number) (some, pipe_calm, pix_calm, cause) = absurd (not_short cause.1)
    none_but_memory stop.PipeFault (some, rose, pix_calm) = absurd (omega (arith, rose.more))
    none_but_memory _ w = absurd w

    pub nothing_else : (stop : Stop) → result ≡ Err stop → IsForMemory stop
    nothing_else stop is = none_but_memory stop (writes (Err stop) is)

-- a receiver that was fed what is behind the header
module _ (seed : ℕ) (bytes : List ℕ) (w : CaptureIsWritten (gen_plan seed) (gen_pixels seed) bytes) (link : Link)
    (over : link ≡ gen_link seed) where
  -- it refuses nothing
  not_refused : {before now : Sinks} (fault : Fault) → Wrote before now [] [] (Due link bytes fault) → fault ≡ no_fault
  not_refused fault wrote =
      w.never_refused bytes [] wrote.more_records wrote.more_text fault (sym (append-nil bytes))
      (subst (λ (l : Link). Due l bytes fault wrote.more_records wrote.more_text) over wrote.so)

  no_word_fault : {before now : Sinks} (bad : AlignBad) → Wrote before now [] [] (Due link bytes (word_fault bad)) → ⊥
  no_word_fault bad wrote = let e = not_refused (word_fault bad) wrote in absurd cc

  no_set_fault : {before now : Sinks} (bad : ParseBad) → Wrote before now [] [] (Due link bytes (set_fault bad)) → ⊥
  no_set_fault bad wrote = let e = not_refused (set_fault bad) wrote in absurd cc

  pub only_write_faults : (r : Receiver) (before now : Sinks) (end : RecvEnd)
      → Feeds r link before now bytes [] [] (Err end) → end ≡ recv.WriteFault
  only_write_faults r before now (recv.Align bad) wrote = absurd (no_word_fault bad wrote)
  only_write_faults r before now (recv.Parse bad) wrote = absurd (no_set_fault bad wrote)
  only_write_faults r before now recv.WriteFault wrote = refl

  -- it writes all pixels
  pub pixels_written : (r : Receiver) {text now : SinkSeen} (sink after : SinkInMemory) → sink.taken ≡ []
      → link_of r ≡ link → Wrote (sinks (seen sink) text) (sinks (seen after) now) [] [] (StandsFor r bytes)
      → after.taken ≡ pixel_records (gen_pixels seed)
  pixels_written r sink after empty of_link wrote =
      (wrote.pix_took ∙ ap (λ xs. xs ++ wrote.more_records) empty)
      ∙ w.records r wrote.more_records wrote.more_text (of_link ∙ over) wrote.so

  -- and ends with all frames
  all_received : (result : Result Received FinishEnd) → EndsAs link bytes result → result ≡ Ok (all_of (gen_plan seed))
  all_received result ends = w.end result (subst (λ (l : Link). EndsAs l bytes result) over ends)

  pub received_is : (received : Received) → EndsAs link bytes (Ok received) → received ≡ all_of (gen_plan seed)
  received_is received ends = let e = all_received (Ok received) ends in cc

  pub not_unfinished : (end : FinishEnd) → EndsAs link bytes (Err end) → ⊥
  not_unfinished end ends = let e = all_received (Err end) ends in absurd cc

-- what is behind the header of a capture
abbrev pub behind_header : List ℕ → List ℕ
behind_header bytes = take (length bytes - 8) (drop 8 bytes)

behind_is : (bytes behind : List ℕ) (link : Link) → bytes ≡ header_bytes link ++ behind → behind ≡ behind_header bytes
behind_is bytes behind link headed =
    let all : take (length (drop 8 bytes)) (drop 8 bytes) ≡ drop 8 bytes = take_all _ (drop 8 bytes) (omega arith) in
    sym (ap (λ n. take n (drop 8 bytes)) (sym (length-drop 8 bytes)) ∙ (all ∙ ap (λ xs. drop 8 xs) headed))

-- of what goes round the receiver writes all
pub is_written : (seed : ℕ) → FramesFit → FramesAreWhole → PixelsAreInRange → CapturesAreWritten → (bytes : List ℕ)
    → GoesRound seed bytes → CaptureIsWritten (gen_plan seed) (gen_pixels seed) (behind_header bytes)
is_written seed fit count in_range written bytes round =
    subst (λ (xs : List ℕ). CaptureIsWritten (gen_plan seed) (gen_pixels seed) xs)
    (behind_is bytes round.behind (gen_link seed) round.headed)
    (written (gen_plan seed) (gen_pixels seed) round.behind (fit seed)
    (record { count = count seed; in_range = in_range seed })
    (subst (λ (xs : List ℕ). IsCapture (gen_plan seed) (gen_pixels seed) xs) round.headed round.capture))
