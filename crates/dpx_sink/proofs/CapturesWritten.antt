-- The end of bytes is one; and what is written of a capture that was sent.
use Rattle.std.proofs.Common.{ℕ, ◌≡◌, ◌∙◌, ◌≤◌, ◌*◌, ◌++◌, List, Some, None, Result, Ok, Err, refl, sym, ap, subst}
use Rattle.std.proofs.Common.{arith}
use Rattle.std.proofs.Math.Nat.{mul-le-mul}
use Rattle.dpx_base.specs.Plan.{PlanFacts, IsPlan}
use Rattle.dpx_base.specs.declared.link.Link.{Link}
use Rattle.dpx_base.specs.declared.pixel.Pixel.{Pixel}
use Rattle.dpx_grammar.specs.Accepted.{Frame}
use Rattle.dpx_inversion.specs.Laws.{sent_frames}
use Rattle.dpx_parse.specs.Stands.{number_of}
use Rattle.dpx_reception.proofs.FaultsStay.{faults_stay}
use Rattle.dpx_reception.proofs.OneLock.{one_lock}
use Rattle.dpx_reception.proofs.OneReception.{one_reception}
use Rattle.dpx_reception.proofs.SentCaptures.{captures_are_received}
use Rattle.dpx_reception.specs.Due.{records_due, lines_due, whole_frames, whole_lines, Due}
use Rattle.dpx_reception.specs.Laws.{SentIsReceived}
use Rattle.dpx_reception.specs.Reception.{Fault, no_fault, word_fault, set_fault, Reception}
use Rattle.dpx_sink.specs.Laws.{IsOneEnd, CapturesAreWritten, all_of}
use Rattle.dpx_sink.specs.Receiver.{EndsAs, Counts}
use Rattle.dpx_sink.specs.declared.finish_end.FinishEnd.{FinishEnd}
use Rattle.dpx_sink.specs.declared.finish_end.FinishEnd.TheVariants.{Truncated, NoLock}
use Rattle.dpx_sink.specs.declared.finish_end.Received.{Received}

-- ---- one end

abbrev counted : (frames lines tail : ℕ) → Received
counted frames lines tail = record { frames = frames; lines = lines; tail_clocks = tail }

same_received : (a b : Received) → a.frames ≡ b.frames → a.lines ≡ b.lines → a.tail_clocks ≡ b.tail_clocks → a ≡ b
same_received a b e f g =
    ap (λ n. counted n a.lines a.tail_clocks) e
    ∙ (ap (λ n. counted b.frames n a.tail_clocks) f ∙ ap (λ n. counted b.frames b.lines n) g)

counts_once : (link : Link) (bytes : List ℕ) (a b : Received) → Counts link bytes a → Counts link bytes b → a ≡ b
counts_once link bytes a b h k =
    let r = one_reception link bytes no_fault no_fault h.frames k.frames h.tail k.tail h.reception k.reception in
    same_received a b
    (h.frames_are ∙ (ap (λ fs. number_of (whole_frames fs)) r.1 ∙ sym k.frames_are))
    (h.lines_are ∙ (ap (λ fs. number_of (whole_lines fs)) r.1 ∙ sym k.lines_are))
    (h.tail_is ∙ (ap number_of r.2 ∙ sym k.tail_is))

pub one_end : IsOneEnd
one_end link bytes (Err (Truncated c l)) (Err (Truncated d m)) h k =
    let e : c ≡ d = h.2 ∙ sym k.2 in
    let f : l ≡ m = h.1 ∙ sym k.1 in
    cc
one_end link bytes (Err (Truncated c l)) (Err (NoLock d)) h k = absurd (omega (arith, h.0, k.0))
one_end link bytes (Err (Truncated c l)) (Ok b) h k = absurd (omega (arith, h.0, k.0))
one_end link bytes (Err (NoLock c)) (Err (Truncated d m)) h k = absurd (omega (arith, h.0, k.0))
one_end link bytes (Err (NoLock c)) (Err (NoLock d)) h k =
    let e : c ≡ d = h.2 ∙ sym k.2 in
    cc
one_end link bytes (Err (NoLock c)) (Ok b) h k =
    let e = one_lock link bytes None (Some k.1.0) h.1 k.1.1 in
    absurd (cc)
one_end link bytes (Ok a) (Err (Truncated d m)) h k = absurd (omega (arith, h.0, k.0))
one_end link bytes (Ok a) (Err (NoLock d)) h k =
    let e = one_lock link bytes None (Some h.1.0) k.1 h.1.1 in
    absurd (cc)
one_end link bytes (Ok a) (Ok b) h k = ap Ok (counts_once link bytes a b h.2 k.2)

-- ---- what was sent is written

never : (link : Link) (front rest : List ℕ) (fault : Fault) (frames others : List Frame) (tail other : ℕ)
    → Reception link (front ++ rest) no_fault frames tail → Reception link front fault others other → fault ≡ no_fault
never link front rest no_fault frames others tail other h k = refl
never link front rest (word_fault bad) frames others tail other h k =
    (one_reception link (front ++ rest) (word_fault bad) no_fault others frames other tail
    (faults_stay link front rest (word_fault bad) others other (λ e. cc) k) h).0
never link front rest (set_fault bad) frames others tail other h k =
    (one_reception link (front ++ rest) (set_fault bad) no_fault others frames other tail
    (faults_stay link front rest (set_fault bad) others other (λ e. cc) k) h).0

frames_once : (link : Link) (bytes : List ℕ) (frames : List Frame) (tail : ℕ) (records text : List ℕ)
    → Reception link bytes no_fault frames tail → Due link bytes no_fault records text
    → (records ≡ records_due frames) × (text ≡ lines_due frames)
frames_once link bytes frames tail records text h d =
    let r = one_reception link bytes no_fault no_fault d.frames frames d.tail tail d.received h in
    (d.records_are ∙ ap records_due r.1, d.text_is ∙ ap lines_due r.1)

few_lines : (p : PlanFacts) → IsPlan p → p.frames * p.mode.height ≤ 65535 * 8192
few_lines p plan = mul-le-mul plan.frames.1 plan.mode.height.1

sent_end : (p : PlanFacts) (pixels : List Pixel) (bytes : List ℕ) → IsPlan p → SentIsReceived p pixels bytes
    → (result : Result Received FinishEnd) → EndsAs p.link bytes result → result ≡ Ok (all_of p)
sent_end p pixels bytes plan s result h =
    one_end p.link bytes result (Ok (all_of p)) h (
      s.whole,
      (_, s.lock),
      record {
        frames = sent_frames p pixels;
        tail = 0;
        reception = s.received;
        frames_are = omega (arith, s.frames, plan.frames.1);
        lines_are = omega (arith, s.lines, few_lines p plan);
        tail_is = omega arith;
      },
    )

pub captures_are_written : CapturesAreWritten
captures_are_written p pixels bytes plan whole capture =
    let s = captures_are_received p pixels bytes plan whole capture in
    record {
      never_refused = λ front rest records text fault e d.
          never p.link front rest fault (sent_frames p pixels) d.frames 0 d.tail
          (subst (λ (x : List ℕ). Reception p.link x no_fault (sent_frames p pixels) 0) e s.received) d.received;
      records = λ r records text link h.
          let d = subst (λ (x : Link). Due x bytes no_fault records text) link h.due in
          (frames_once p.link bytes (sent_frames p pixels) 0 records text s.received d).0 ∙ s.records;
      text = λ r records text link h.
          let d = subst (λ (x : Link). Due x bytes no_fault records text) link h.due in
          (frames_once p.link bytes (sent_frames p pixels) 0 records text s.received d).1 ∙ s.text;
      end = sent_end p pixels bytes plan s;
    }
