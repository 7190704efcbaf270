-- What is due stays, as bytes follow.
use Rattle.std.proofs.Common.{◌≡◌, ℕ, zero, suc, ◌≤◌, inl, inr, Bool, List, [], ◌∷◌, ◌++◌, Some, refl, sym, ap, subst}
use Rattle.std.proofs.Common.{◌∙◌, arith}
use Rattle.std.proofs.Common.{append_assoc, append-nil}
use Rattle.std.specs.Prelude.{slice_get}
use Rattle.std.specs.List.{flat_map}
use Rattle.std.proofs.lemmas.Bool.{cases_lt}
use Rattle.std.proofs.lemmas.Grind.{flat_map-append}
use Rattle.dpx_base.specs.Lanes.{lanes_count}
use Rattle.dpx_base.specs.declared.link.Link.{Link}
use Rattle.dpx_base.specs.declared.pixel.Pixel.{Pixel}
use Rattle.dpx_base.specs.declared.sym.Sym.{Sym}
use Rattle.dpx_align.specs.Aligner.{place_of}
use Rattle.dpx_align.specs.Lock.{sr_group}
use Rattle.dpx_align.proofs.Completing.{set_once}
use Rattle.dpx_grammar.specs.Accepted.{Frame, Receives, IsAccepted}
use Rattle.dpx_reception.specs.Bytes.{clocks_in, received_words}
use Rattle.dpx_reception.specs.Due.{pixel_records, records_due, attributes_line, lines_due, Due, PartlyDue}
use Rattle.dpx_reception.specs.Laws.{IsFront, DueStays, PartsAreFronts}
use Rattle.dpx_reception.specs.Reception.{AreSets, AreFirstSets, Gives, Fault, no_fault, word_fault, set_fault}
use Rattle.dpx_reception.specs.Reception.{ReceivedUpTo}
use Rattle.dpx_reception.proofs.FaultsStay.{gives_on}
use Rattle.dpx_reception.proofs.FramesGo.{AreFront}
use Rattle.dpx_reception.proofs.FramesStay.{frames_stay}
use Rattle.dpx_reception.proofs.Grown.{some_lanes}
use Rattle.dpx_reception.proofs.OneReception.{GoesOn, Long, same_front, either_goes_on, all_or_less, accepted_front}
use Rattle.dpx_reception.proofs.OneReception.{clocks_before, first_on, within_all, received_even}

-- ---- sets that come before any fault go on as those that are received

on_to_all : (link : Link) (words : List (List ℕ)) (c n : ℕ) (xs ys : List (List Sym)) → c ≤ n
    → Gives words c (λ plain. AreFirstSets link.enhanced plain xs)
    → Gives words n (λ plain. AreSets link.enhanced plain ys) → GoesOn xs ys
on_to_all link words c n xs ys l g k =
    let first = first_on link.enhanced words c n g.plain k.plain xs l g.symbols k.symbols g.sets in
    same_front xs ys (λ s x e. k.sets.no_others s x (first s x e))

either : (link : Link) (words : List (List ℕ)) (c d : ℕ) (u v : List (List Sym)) → c ≤ d
    → Gives words c (λ plain. AreFirstSets link.enhanced plain u)
    → Gives words d (λ plain. AreFirstSets link.enhanced plain v)
    → (u_on : GoesOn u v → ⊥) → GoesOn v u
either link words c d u v l g k none =
    let first = first_on link.enhanced words c d g.plain k.plain u l g.symbols k.symbols g.sets in
    elim (either_goes_on u v
    (λ s x y e f. set_once (sr_group link.enhanced) k.plain s x y (first s x e) (k.sets s y f))) [
      | inl on ↦ absurd (none on)
      | inr on ↦ on
    ]

either_way : (link : Link) (words : List (List ℕ)) (c d : ℕ) (u v : List (List Sym))
    → Gives words c (λ plain. AreFirstSets link.enhanced plain u)
    → Gives words d (λ plain. AreFirstSets link.enhanced plain v)
    → (GoesOn v u → ⊥) → GoesOn u v
either_way link words c d u v g k none =
    elim (cases_lt c d) [
      | inl l ↦
          let first =
          first_on link.enhanced words c d g.plain k.plain u (omega (arith, l)) g.symbols k.symbols g.sets in
          elim (either_goes_on u v
          (λ s x y e f. set_once (sr_group link.enhanced) k.plain s x y (first s x e) (k.sets s y f))) [
            | inl on ↦ on
            | inr on ↦ absurd (none on)
          ]
      | inr l ↦ either link words d c v u l k g none
    ]

sets_on : (link : Link) (words : List (List ℕ)) (n c : ℕ) (fault : Fault) (xs ys : List (List Sym)) → Long words n
    → Gives words c (λ plain. AreFirstSets link.enhanced plain xs)
    → IsAccepted link.enhanced (lanes_count link.lanes) xs → ReceivedUpTo link words n fault ys → GoesOn xs ys
sets_on link words n c no_fault xs ys long g accepted h =
    let w = within_all words n c (λ plain. AreFirstSets link.enhanced plain xs) long g in
    on_to_all link words w.0 n xs ys w.1 w.2 h
sets_on link words n c (word_fault bad) xs ys long g accepted h =
    on_to_all link words c (place_of bad).clock xs ys (clocks_before words bad c h.0 g.no_fault) g h.1
sets_on link words n c (set_fault bad) xs ys long g accepted (d, set, k, r) =
    let on = either_way link words c d xs (ys ++ set ∷ []) g k
    (λ back. r.fault.fault (accepted_front link (ys ++ set ∷ []) xs back accepted)) in
    elim (all_or_less xs ys set on) [
      | inl e ↦
          absurd (r.fault.fault
          (subst (λ (x : List (List Sym)). IsAccepted link.enhanced (lanes_count link.lanes) x) (sym e) accepted))
      | inr less ↦ less
    ]

-- ---- records and text of frames that go on

no_front : (f : Frame) (fs : List Frame) → AreFront (f ∷ fs) [] → ⊥
no_front f [] h = h
no_front f (g ∷ fs) h = h

abbrev lines_records : List (List Pixel) → List ℕ
lines_records lines = flat_map pixel_records lines

front_of_last : (a b c d : List ℕ) → b ≡ a ++ c → IsFront (a ++ []) (b ++ d)
front_of_last a b c d e =
    (c ++ d, ap (λ x. x ++ d) e ∙ (append_assoc a c d ∙ ap (λ x. x ++ (c ++ d)) (sym (append-nil a))))

front_of_same : (a b x y : List ℕ) → a ≡ b → IsFront x y → IsFront (a ++ x) (b ++ y)
front_of_same a b x y e (rest, h) =
    (rest, ap (λ z. z ++ y) (sym e) ∙ (ap (λ z. a ++ z) h ∙ sym (append_assoc a x rest)))

records_on : (frames others : List Frame) → AreFront frames others → IsFront (records_due frames) (records_due others)
unfolding records_due
records_on [] others h = (records_due others, refl)
records_on (f ∷ fs) [] h = absurd (no_front f fs h)
records_on (f ∷ []) (g ∷ gs) h =
    front_of_last (lines_records f.lines) (lines_records g.lines) (lines_records h.1.0) (records_due gs)
    (ap lines_records h.1.1 ∙ flat_map-append pixel_records f.lines h.1.0)
records_on (f ∷ e ∷ fs) (g ∷ gs) h =
    front_of_same (lines_records f.lines) (lines_records g.lines) (records_due (e ∷ fs)) (records_due gs)
    (ap lines_records h.1) (records_on (e ∷ fs) gs h.2)

text_on : (frames others : List Frame) → AreFront frames others → IsFront (lines_due frames) (lines_due others)
unfolding lines_due
text_on [] others h = (lines_due others, refl)
text_on (f ∷ fs) [] h = absurd (no_front f fs h)
text_on (f ∷ []) (g ∷ gs) h =
    front_of_same (attributes_line f.attributes) (attributes_line g.attributes) [] (lines_due gs)
    (ap attributes_line h.0) (lines_due gs, refl)
text_on (f ∷ e ∷ fs) (g ∷ gs) h =
    front_of_same (attributes_line f.attributes) (attributes_line g.attributes) (lines_due (e ∷ fs)) (lines_due gs)
    (ap attributes_line h.0) (text_on (e ∷ fs) gs h.2)

pub parts_are_fronts : PartsAreFronts
parts_are_fronts link bytes more fault records others text texts a b =
    let lanes = lanes_count link.lanes in
    let part = a.received in
    let whole = b.received in
    let all = received_words lanes (bytes ++ more) in
    let g = gives_on lanes bytes more part.clocks (λ plain. AreFirstSets link.enhanced plain part.sets)
    (some_lanes link.lanes) part.given in
    let on = sets_on link all (clocks_in lanes (bytes ++ more)) g.0 fault part.sets whole.sets
    (received_even lanes (bytes ++ more)) g.1 (a.frames, part.tail, part.accepted) whole.up_to in
    let longer = subst (λ (x : List (List Sym)). Receives link.enhanced lanes x b.frames b.tail) on.1 whole.accepted in
    let front = frames_stay link.enhanced link.lanes part.sets on.0 a.frames b.frames part.tail b.tail part.accepted
    longer in (
      subst (λ (x : List ℕ). IsFront x others) (sym a.records_are)
          (subst (λ (x : List ℕ). IsFront (records_due a.frames) x) (sym b.records_are)
          (records_on a.frames b.frames front)),
      subst (λ (x : List ℕ). IsFront x texts) (sym a.text_is)
          (subst (λ (x : List ℕ). IsFront (lines_due a.frames) x) (sym b.text_is) (text_on a.frames b.frames front)),
    )

-- ---- what is received comes before any fault

abbrev First : Link → List (List ℕ) → List (List Sym) → Type 0
First link words sets = (clocks : ℕ) × Gives words clocks (λ plain. AreFirstSets link.enhanced plain sets)

first_ones : (enhanced : Bool) (words : List (List ℕ)) (clocks : ℕ) (sets : List (List Sym))
    → Gives words clocks (λ plain. AreSets enhanced plain sets)
    → Gives words clocks (λ plain. AreFirstSets enhanced plain sets)
first_ones enhanced words clocks sets g =
    record { no_fault = g.no_fault; plain = g.plain; symbols = g.symbols; sets = g.sets.there }

get_front : (xs ys : List (List Sym)) (s : ℕ) (x : List Sym) → slice_get xs s ≡ Some x
    → slice_get (xs ++ ys) s ≡ Some x
get_front [] ys s x e = cc
get_front (y ∷ xs) ys zero x e = e
get_front (y ∷ xs) ys (suc s) x e = get_front xs ys s x e

but_last : (enhanced : Bool) (words : List (List ℕ)) (clocks : ℕ) (sets : List (List Sym)) (set : List Sym)
    → Gives words clocks (λ plain. AreFirstSets enhanced plain (sets ++ set ∷ []))
    → Gives words clocks (λ plain. AreFirstSets enhanced plain sets)
but_last enhanced words clocks sets set g = record {
  no_fault = g.no_fault;
  plain = g.plain;
  symbols = g.symbols;
  sets = λ s x e.
      g.sets s x (get_front sets (set ∷ []) s x e);
}

first_of : (link : Link) (words : List (List ℕ)) (n : ℕ) (fault : Fault) (sets : List (List Sym))
    → ReceivedUpTo link words n fault sets → First link words sets
first_of link words n no_fault sets h = (n, first_ones link.enhanced words n sets h)
first_of link words n (word_fault bad) sets h =
    ((place_of bad).clock, first_ones link.enhanced words (place_of bad).clock sets h.1)
first_of link words n (set_fault bad) sets (c, set, g, r) = (c, but_last link.enhanced words c sets set g)

partly : (link : Link) (bytes : List ℕ) (fault : Fault) (records text : List ℕ) → Due link bytes fault records text
    → PartlyDue link bytes records text
partly link bytes fault records text d =
    let lanes = lanes_count link.lanes in
    let r = d.received in
    let f = first_of link (received_words lanes bytes) (clocks_in lanes bytes) fault r.sets r.up_to in
    record {
      frames = d.frames;
      received = record { clocks = f.0; sets = r.sets; given = f.1; tail = d.tail; accepted = r.accepted };
      records_are = d.records_are;
      text_is = d.text_is;
    }

pub due_stays : DueStays
due_stays link bytes more fault other records others text texts a b =
    parts_are_fronts link bytes more other records others text texts (partly link bytes fault records text a) b
