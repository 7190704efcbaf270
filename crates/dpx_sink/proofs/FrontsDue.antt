-- What the words of a front of some bytes give is due of the bytes.
use Rattle.std.proofs.Common.{ℕ, ◌≡◌, ◌∙◌, ◌<◌, ◌≤◌, ◌+◌, ◌*◌, ◌/◌, ◌%◌, inl, inr, List, [], ◌∷◌, ◌++◌, length, take}
use Rattle.std.proofs.Common.{drop, Some, Err}
use Rattle.std.proofs.Common.{sym, ap, subst, arith, append-nil, length-append, length-take}
use Rattle.std.proofs.lemmas.List.{length-map, take-append-drop}
use Rattle.std.proofs.lemmas.Nat.{div-mul-add, mod-mul-add}
use Rattle.dpx_align.proofs.LaneSymbols.{bad_on}
use Rattle.dpx_align.proofs.OneFault.{clock_once}
use Rattle.dpx_align.specs.Aligner.{IsFirstFault, place_of}
use Rattle.dpx_align.specs.Faults.{Counted, FaultAt, NoFault, Symbols, cut}
use Rattle.dpx_align.specs.declared.align_bad.AlignBad.{AlignBad}
use Rattle.dpx_base.specs.Capture.{words_in}
use Rattle.dpx_base.specs.Lanes.{lanes_count}
use Rattle.dpx_base.specs.Words.{words_of, BadAt}
use Rattle.dpx_base.specs.declared.link.Link.{Link}
use Rattle.dpx_base.specs.declared.sym.Sym.{Sym}
use Rattle.dpx_grammar.specs.Accepted.{Frame, Receives}
use Rattle.dpx_parse.proofs.Accepting.{accepts_exactly}
use Rattle.dpx_parse.proofs.Hearing.{gives_frames}
use Rattle.dpx_parse.specs.Received.{heard, frames_heard}
use Rattle.dpx_parse.specs.declared.bad.ParseBad.{ParseBad}
use Rattle.dpx_reception.proofs.FaultsStay.{faults_stay, gives_on, whole_same}
use Rattle.dpx_reception.proofs.Grown.{some_lanes, same_words}
use Rattle.dpx_reception.proofs.OneReception.{cut_row}
use Rattle.dpx_reception.specs.Bytes.{clocks_in, left_over, received_words}
use Rattle.dpx_reception.specs.Due.{records_due, lines_due, whole_frames, whole_lines, Due, PartlyDue}
use Rattle.dpx_reception.specs.Reception.{AreSets, AreFirstSets, Gives, Fault, no_fault, word_fault, set_fault}
use Rattle.dpx_reception.specs.Reception.{Reception}
use Rattle.dpx_sink.specs.Clocks.{HasTaken, InFront, IsCut, framing_of}
use Rattle.dpx_sink.specs.Reader.{Framing, HasBadWord, HasBadSet, HasSome, Tell}
use Rattle.dpx_sink.specs.Receiver.{Feeds, end_of, output_told}
use Rattle.dpx_sink.specs.Writes.{Sinks, Refused}
use Rattle.dpx_sink.specs.declared.receiver.Receiver.{Receiver}
use Rattle.dpx_sink.specs.declared.recv_end.RecvEnd.{RecvEnd}
use Rattle.dpx_sink.specs.declared.refusal.Refusal.{Refusal}
use Rattle.dpx_sink.specs.declared.refusal.Refusal.TheVariants.{Word, Set, Write}
use Rattle.dpx_sink.specs.Told.{Under, none, Tally, after_all, frames_in}
use Rattle.dpx_sink.specs.declared.clocks.Clocks.{Clocks}
use Rattle.dpx_sink.proofs.Frames.{none_gives, text_gives, counts_are}
use Rattle.dpx_sink.proofs.Readers.{all_symbols, counted_fed}
use Rattle.dpx_sink.proofs.Writes.{wrote_so, front_so}

-- ---- words before a fault

before_fault : (words : List (List ℕ)) (clock lane : ℕ) → FaultAt words clock lane → NoFault (cut clock words)
before_fault words clock lane f other before within bad =
    let i : other < length words = omega (arith, within, length-map words (λ (row : List ℕ). take clock row)) in
    let row = words_of words other in
    let own : BadAt (take clock row) before =
    subst (λ (x : List ℕ). BadAt x before) (cut_row clock words other i) bad in
    let all : BadAt row before =
    subst (λ (x : List ℕ). BadAt x before) (take-append-drop clock row)
    (bad_on (take clock row) (drop clock row) before own) in
    f.least other before i (omega (arith, own.within, length-take clock row)) all

-- the symbols that count are those of some first clocks
counted_gives : (lanes : ℕ) (bytes : List ℕ) (plain : List (List Sym)) (have : (plain : List (List Sym)) → Type 0)
    → Counted (received_words lanes bytes) plain → have plain
    → (clocks : ℕ) × Gives (received_words lanes bytes) clocks have
counted_gives lanes bytes plain have (inl h) there =
    let words = received_words lanes bytes in
    let same : cut (clocks_in lanes bytes) words ≡ words =
    whole_same lanes bytes (clocks_in lanes bytes) (omega arith) in (
      clocks_in lanes bytes,
      record {
        no_fault = subst (λ (x : List (List ℕ)). NoFault x) (sym same) h.0;
        plain = plain;
        symbols = subst (λ (x : List (List ℕ)). Symbols x plain) (sym same) h.1;
        sets = there;
      },
    )
counted_gives lanes bytes plain have (inr (clock, lane, f, s)) there = (
  clock,
  record {
    no_fault = before_fault (received_words lanes bytes) clock lane f;
    plain = plain;
    symbols = s;
    sets =
        there;
  },
)

-- those before the first word fault, where there is one
word_gives : (words : List (List ℕ)) (bad : AlignBad) (plain : List (List Sym))
    (have : (plain : List (List Sym)) → Type 0)
    → IsFirstFault words bad → Counted words plain → have plain → Gives words (place_of bad).clock have
word_gives words bad plain have f (inl h) there =
    absurd (h.0 (place_of bad).lane (place_of bad).clock f.fault.within f.fault.bad)
word_gives words bad plain have f (inr (clock, lane, g, s)) there =
    let e = clock_once words clock (place_of bad).clock lane (place_of bad).lane g f.fault in
    record {
      no_fault = before_fault words (place_of bad).clock (place_of bad).lane f.fault;
      plain = plain;
      symbols = subst (λ n. Symbols (cut n words) plain) e s;
      sets = there;
    }

-- ---- what sets tell is what their frames give

pub record FramesTold (f : Framing) (sets : List (List Sym)) (records text : List ℕ) (under : Under) (t : Tally)
    : Type 0 where
  pub frames : List Frame
  pub tail : ℕ
  pub accepted : Receives f.enhanced (lanes_count f.lanes) sets frames tail
  pub records_are : records ≡ records_due frames
  pub text_is : text ≡ lines_due frames
  pub frames_counted : frames_in under t ≡ whole_frames frames
  pub lines_counted : t.lines ≡ whole_lines frames

pub frames_told : (f : Framing) (sets : List (List Sym)) (records text : List ℕ) (under : Under) (t : Tally)
    → Tell f sets records text under t → FramesTold f sets records text under t
frames_told f sets records text under t g =
    let lanes = lanes_count f.lanes in
    let a = (accepts_exactly f.enhanced f.lanes sets).0 g.no_fault in
    let e : frames_heard lanes (heard g.events) ≡ a.0 =
    sym (gives_frames f.enhanced f.lanes sets g.events a.0 a.1 g.events_are a.2) in
    let counts = counts_are lanes g.events in
    record {
      frames = a.0;
      tail = a.1;
      accepted = a.2;
      records_are = g.records_are ∙ (none_gives lanes g.events ∙ ap records_due e);
      text_is = g.text_is ∙ (text_gives lanes g.events ∙ ap lines_due e);
      frames_counted = ap (λ u. frames_in u t) g.under_is
          ∙ (ap (λ x. frames_in (after_all none g.events) x) g.tally_is ∙ (counts.0 ∙ ap whole_frames e));
      lines_counted = ap (λ (x : Tally). x.lines) g.tally_is ∙ (counts.1 ∙ ap whole_lines e);
    }

-- ---- the words of bytes are those of their whole clocks

pub clocks_kept : (lanes n : ℕ) (done left : List ℕ) → length done ≡ n * (2 * lanes) → length left < 2 * lanes
    → (clocks_in lanes (done ++ left) ≡ n) × (left_over lanes (done ++ left) ≡ length left)
unfolding clocks_in left_over
clocks_kept lanes n done left whole short =
    let e : length (done ++ left) ≡ n * (2 * lanes) + length left = length-append done left
    ∙ ap (λ k. k + length left) whole in (
      ap (λ k. k / (2 * lanes)) e ∙ div-mul-add n (2 * lanes) (length left) short,
      ap (λ k. k % (2 * lanes)) e ∙ mod-mul-add n (2 * lanes) (length left) short,
    )

words_kept : (lanes n : ℕ) (done left : List ℕ) → clocks_in lanes done ≡ n → clocks_in lanes (done ++ left) ≡ n
    → 2 * lanes * n ≤ length done → received_words lanes done ≡ received_words lanes (done ++ left)
unfolding received_words
words_kept lanes n done left a b room =
    ap (λ k. words_in lanes k done) a
    ∙ (sym (same_words lanes n done left room) ∙ ap (λ k. words_in lanes k (done ++ left)) (sym b))

pub words_of_cut : (lanes : ℕ) (bytes done left : List ℕ) → 0 < lanes → IsCut lanes bytes done left
    → received_words lanes done ≡ received_words lanes bytes
words_of_cut lanes bytes done left some cut =
    let n : ℕ = cut.clocks in
    let own : clocks_in lanes done ≡ n =
    ap (clocks_in lanes) (sym (append-nil done)) ∙ (clocks_kept lanes n done [] cut.whole (omega (arith, some))).0 in
    let all = (clocks_kept lanes n done left cut.whole cut.short).0 in
    words_kept lanes n done left own all (omega (arith, cut.whole))
    ∙ ap (received_words lanes) (sym cut.joined)

-- ---- what a receiver has taken is due

pub taken_due : (c : Clocks) (bytes records text : List ℕ) → HasTaken c bytes records text
    → Due c.link bytes no_fault records text
taken_due c bytes records text h =
    let link = c.link in
    let lanes = lanes_count link.lanes in
    let words = received_words lanes h.done in
    let r = h.read in
    let e : words ≡ received_words lanes bytes =
    words_of_cut lanes bytes h.done c.left.items (some_lanes link.lanes) h.cut in
    let counted = counted_fed c.reader.aligner words r.given.plain r.given.fed in
    let n : ℕ = clocks_in lanes bytes in
    let same : words ≡ cut n (received_words lanes bytes) = e ∙ sym (whole_same lanes bytes n (omega arith)) in
    let f = frames_told (framing_of link) r.sets records text r.under r.tally r.tell in
    record {
      frames = f.frames;
      tail = f.tail;
      received = record {
        sets = r.sets;
        up_to = record {
          no_fault = subst (λ (x : List (List ℕ)). NoFault x) same r.no_fault;
          plain = r.given.plain;
          symbols = subst (λ (x : List (List ℕ)). Symbols x r.given.plain) same
              (all_symbols words r.given.plain r.no_fault counted);
          sets = r.are_sets;
        };
        accepted = f.accepted;
      };
      records_are = f.records_are;
      text_is = f.text_is;
    }

-- what is due of a front that has a fault is due of all bytes
stays : (link : Link) (bytes front rest : List ℕ) (fault : Fault) (frames : List Frame) (tail : ℕ)
    → bytes ≡ front ++ rest → (fault ≡ no_fault → ⊥) → Reception link front fault frames tail
    → Reception link bytes fault frames tail
stays link bytes front rest fault frames tail e bad r =
    subst (λ (x : List ℕ). Reception link x fault frames tail) (sym e)
    (faults_stay link front rest fault frames tail bad r)

pub word_due : (link : Link) (bytes : List ℕ) (bad : AlignBad) (records text : List ℕ)
    → InFront link (λ words. HasBadWord (framing_of link) words bad records text) bytes
    → Due link bytes (word_fault bad) records text
word_due link bytes bad records text h =
    let b = h.there in
    let words = received_words (lanes_count link.lanes) h.front in
    let f = frames_told (framing_of link) b.sets records text b.under b.tally b.tell in
    let have : (plain : List (List Sym)) → Type 0 = λ plain. AreSets link.enhanced plain b.sets in
    record {
      frames = f.frames;
      tail = f.tail;
      received = stays link bytes h.front h.rest (word_fault bad) f.frames f.tail h.divided (λ e. cc) (record {
        sets = b.sets;
        up_to = (b.fault, word_gives words bad b.plain have b.fault b.counted b.are_sets);
        accepted = f.accepted;
      });
      records_are = f.records_are;
      text_is = f.text_is;
    }

pub set_due : (link : Link) (bytes : List ℕ) (bad : ParseBad) (records text : List ℕ)
    → InFront link (λ words. HasBadSet (framing_of link) words bad records text) bytes
    → Due link bytes (set_fault bad) records text
set_due link bytes bad records text h =
    let b = h.there in
    let f = frames_told (framing_of link) b.sets records text b.under b.tally b.tell in
    let have : (plain : List (List Sym)) → Type 0 = λ plain. AreFirstSets link.enhanced plain (b.sets ++ b.set ∷ []) in
    let g = counted_gives (lanes_count link.lanes) h.front b.plain have b.counted b.first in
    record {
      frames = f.frames;
      tail = f.tail;
      received = stays link bytes h.front h.rest (set_fault bad) f.frames f.tail h.divided (λ e. cc)
          (record { sets = b.sets; up_to = (g.0, b.set, g.1, b.refuses); accepted = f.accepted });
      records_are = f.records_are;
      text_is = f.text_is;
    }

pub part_due : (link : Link) (bytes records text : List ℕ)
    → InFront link (λ words. HasSome (framing_of link) words records text) bytes → PartlyDue link bytes records text
part_due link bytes records text h =
    let b = h.there in
    let lanes = lanes_count link.lanes in
    let f = frames_told (framing_of link) b.sets records text b.under b.tally b.tell in
    let have : (plain : List (List Sym)) → Type 0 = λ plain. AreFirstSets link.enhanced plain b.sets in
    let g = counted_gives lanes h.front b.plain have b.counted b.first in
    let on = gives_on lanes h.front h.rest g.0 have (some_lanes link.lanes) g.1 in
    record {
      frames = f.frames;
      received = record {
        clocks = on.0;
        sets = b.sets;
        given = subst (λ (x : List ℕ). Gives (received_words lanes x) on.0 have) (sym h.divided) on.1;
        tail = f.tail;
        accepted = f.accepted;
      };
      records_are = f.records_are;
      text_is = f.text_is;
    }

-- ---- by the answer

refused_feeds : (r : Receiver) (link : Link) (before now : Sinks)
    (bytes p l : List ℕ) (refusal : Refusal) → r.refused ≡ Some refusal
    → Refused before now p l (λ bad q m. InFront link (λ words. HasBadWord (framing_of link) words bad q m) bytes)
    (λ bad q m. InFront link (λ words. HasBadSet (framing_of link) words bad q m) bytes)
    (λ q m. InFront link (λ words. HasSome (framing_of link) words q m) bytes) refusal
    → Feeds r link before now bytes p l (Err (end_of refusal))
refused_feeds r link before now bytes p l (Word bad) e w =
    wrote_so before now p l _ _ w (λ q m h. word_due link bytes bad q m h)
refused_feeds r link before now bytes p l (Set bad) e w =
    wrote_so before now p l _ _ w (λ q m h. set_due link bytes bad q m h)
refused_feeds r link before now bytes p l (Write output) e w =
    (output, ap output_told e, front_so output before now p l _ _ w (λ q m h. part_due link bytes q m h))

-- the same, for what callers see of the refusal
pub seen_feeds : (r : Receiver) (link : Link) (before now : Sinks)
    (bytes p l : List ℕ) (refusal : Refusal) (end : RecvEnd) → end ≡ end_of refusal → r.refused ≡ Some refusal
    → Refused before now p l (λ bad q m. InFront link (λ words. HasBadWord (framing_of link) words bad q m) bytes)
    (λ bad q m. InFront link (λ words. HasBadSet (framing_of link) words bad q m) bytes)
    (λ q m. InFront link (λ words. HasSome (framing_of link) words q m) bytes) refusal
    → Feeds r link before now bytes p l (Err end)
seen_feeds r link before now bytes p l refusal end is e w =
    subst (λ x. Feeds r link before now bytes p l (Err x)) (sym is)
    (refused_feeds r link before now bytes p l refusal e w)
