-- A capture is received as the frames that were sent.
use Rattle.std.proofs.Common.{◌≡◌, ℕ, zero, suc, ◌<◌, ◌≤◌, ◌+◌, ◌-◌, ◌*◌, ◌/◌, ◌%◌, Bool, true, false, List, [], ◌∷◌}
use Rattle.std.proofs.Common.{◌++◌, length, map, drop, replicate, get_or, refl, sym, ap, subst, ◌∙◌, arith}
use Rattle.std.proofs.Common.{length-append}
use Rattle.std.specs.List.{AllByRecursion}
use Rattle.std.proofs.lemmas.List.{length-map, length-replicate, get_or-map, get_or-replicate}
use Rattle.std.proofs.lemmas.List.FromFn.{length-map-range_with_len}
use Rattle.std.proofs.lemmas.Nat.{div-mul-add, mod-mul-add}
use Rattle.dpx_base.specs.Capture.{IsCapture, header_bytes, word_bytes, words_in, capture_clocks}
use Rattle.dpx_base.specs.Key.{is_reset}
use Rattle.dpx_base.specs.Lanes.{lanes_count}
use Rattle.dpx_base.specs.Plan.{PlanFacts, IsPlan, clocks}
use Rattle.dpx_base.specs.Sets.{set_at, sets}
use Rattle.dpx_base.specs.Slots.{header_start}
use Rattle.dpx_base.specs.Symbols.{sr}
use Rattle.dpx_base.specs.Words.{fill, column, lane_row, words_of, LaneWords, SentWords}
use Rattle.dpx_base.specs.declared.lanes.Lanes.{Lanes}
use Rattle.dpx_base.specs.declared.lanes.Lanes.TheVariants.{One, Two, Four}
use Rattle.dpx_base.specs.declared.pixel.Pixel.{Pixel}
use Rattle.dpx_base.specs.declared.sym.Sym.{Sym}
use Rattle.dpx_code.proofs.Lists.{coded_length}
use Rattle.dpx_align.specs.Faults.{NoFault, Symbols, cut}
use Rattle.dpx_align.specs.Sent.{FirstGroup, Wide, Received}
use Rattle.dpx_align.specs.Sent.{group_sets as group_on_lanes}
use Rattle.dpx_align.proofs.SentSets.{received}
use Rattle.dpx_align.proofs.SentThere.{symbols_there}
use Rattle.dpx_align.proofs.Teams.{cut_all}
use Rattle.dpx_grammar.specs.Parts.{data_set, group_sets}
use Rattle.dpx_inversion.specs.Laws.{IsSet, sent_frames}
use Rattle.dpx_inversion.specs.Source.{plan_lanes, zero_row}
use Rattle.dpx_inversion.proofs.Given.{inverts, starts_with_group}
use Rattle.dpx_inversion.proofs.Received.{is_received}
use Rattle.dpx_inversion.proofs.Sendable.{sets_can_be_sent}
use Rattle.dpx_reception.specs.Bytes.{clocks_in, left_over, received_words}
use Rattle.dpx_reception.specs.Due.{pixel_records}
use Rattle.dpx_reception.specs.Laws.{CapturesAreReceived}
use Rattle.dpx_reception.specs.Reception.{AreSets, Gives}
use Rattle.dpx_reception.proofs.Grown.{some_lanes}
use Rattle.dpx_reception.proofs.SentFrames.{frame_records, sent_text, sent_whole, sent_lines}
use Rattle.dpx_reception.proofs.WordsBack.{length-word_bytes, words_back}

-- ---- the words' lengths

row_length : (lanes lane : ℕ) (symbols : List Sym) → lane < lanes
    → length (lane_row lanes lane symbols) ≡ length symbols + 2 * (lanes - 1)
row_length lanes lane symbols l =
    omega (
      arith,
      l,
      length-append (replicate (2 * lane) fill) (symbols ++ replicate (2 * (lanes - 1 - lane)) fill),
      length-append symbols (replicate (2 * (lanes - 1 - lane)) fill),
      length-replicate (2 * lane) fill,
      length-replicate (2 * (lanes - 1 - lane)) fill,
    )

words_length : (lanes lane : ℕ) (symbols : List Sym) (words : List ℕ) → lane < lanes
    → LaneWords lanes lane symbols words → length words ≡ length symbols + 2 * (lanes - 1)
words_length lanes lane symbols words l h =
    omega (arith, row_length lanes lane symbols l, h.key.size, coded_length false h.keyed words h.end h.code)

sets_length : (p : PlanFacts) (pixels : List Pixel) → length (sets p pixels) ≡ clocks p
sets_length p pixels = length-map-range_with_len (set_at p pixels) 0 (clocks p)

capture_long : (p : PlanFacts) (pixels : List Pixel) (words : List (List ℕ))
    → SentWords (lanes_count p.link.lanes) (sets p pixels) words → (lane : ℕ) → lane < lanes_count p.link.lanes
    → length (words_of words lane) ≡ capture_clocks p
capture_long p pixels words s lane l =
    let row = column lane (sets p pixels) in
    words_length (lanes_count p.link.lanes) lane row (words_of words lane) l (s.each lane l)
    ∙ ap (λ n. n + 2 * (lanes_count p.link.lanes - 1))
    (length-map (sets p pixels) (λ (set : List Sym). get_or set lane fill) ∙ sets_length p pixels)

-- ---- the first group

group_is : (enhanced : Bool) (lanes : ℕ) → group_sets enhanced lanes sr ≡ group_on_lanes enhanced lanes
group_is true lanes = refl
group_is false lanes = refl

zero_symbol : (n lane : ℕ) → is_reset (get_or (data_set (replicate n 0)) lane fill) ≡ false
zero_symbol zero zero = refl
zero_symbol zero (suc lane) = refl
zero_symbol (suc n) zero = refl
zero_symbol (suc n) (suc lane) = zero_symbol n lane

quiet : (p : PlanFacts) (lane : ℕ) → is_reset (get_or (data_set (zero_row p)) lane fill) ≡ false
unfolding zero_row
quiet p lane = zero_symbol (plan_lanes p) lane

abbrev zeros : PlanFacts → List (List Sym)
zeros p = map data_set (replicate (header_start p 0) (zero_row p))

zeros_length : (p : PlanFacts) → length (zeros p) ≡ header_start p 0
zeros_length p = length-map (replicate (header_start p 0) (zero_row p)) data_set
    ∙ length-replicate (header_start p 0) (zero_row p)

zero_set : (p : PlanFacts) (k : ℕ) → k < header_start p 0 → get_or (zeros p) k [] ≡ data_set (zero_row p)
zero_set p k l =
    get_or-map data_set (replicate (header_start p 0) (zero_row p)) k [] []
    (omega (arith, l, length-replicate (header_start p 0) (zero_row p)))
    ∙ ap data_set (get_or-replicate (header_start p 0) k (zero_row p) [] l)

first_group : (p : PlanFacts) (pixels : List Pixel) → IsPlan p
    → (g : FirstGroup p.link.enhanced (lanes_count p.link.lanes) (sets p pixels)) × (g.before ≡ zeros p)
first_group p pixels plan =
    let lanes = lanes_count p.link.lanes in
    let s = starts_with_group p pixels plan in
    let g : FirstGroup p.link.enhanced lanes (sets p pixels) = record {
      before = zeros p;
      rest = s.0;
      parts = s.1 ∙ ap (λ (group : List (List Sym)). zeros p ++ (group ++ s.0)) (group_is p.link.enhanced lanes);
      none = λ k lane l.
          ap (λ (set : List Sym). is_reset (get_or set lane fill)) (zero_set p k (omega (arith, l, zeros_length p)))
          ∙ quiet p lane;
    } in
    (g, refl)

wide_of : (lanes : ℕ) (sets : List (List Sym)) → AllByRecursion (IsSet lanes) sets → Wide lanes sets
wide_of lanes [] h k l = absurd (omega (arith, l))
wide_of lanes (set ∷ sets) h zero l = h.0.0
wide_of lanes (set ∷ sets) h (suc k) l = wide_of lanes sets h.1 k (omega (arith, l))

few_lanes : (lanes : Lanes) → lanes_count lanes ≤ 4
few_lanes One = omega arith
few_lanes Two = omega arith
few_lanes Four = omega arith

-- ---- what is received of the words

abbrev all_sets : PlanFacts → List Pixel → List (List Sym)
all_sets p pixels = drop (header_start p 0) (sets p pixels)

words_received : (p : PlanFacts) (pixels : List Pixel) (words : List (List ℕ)) → IsPlan p
    → SentWords (lanes_count p.link.lanes) (sets p pixels) words
    → (plain : List (List Sym)) × Symbols words plain
    × Received p.link.enhanced words plain (header_start p 0) (all_sets p pixels)
words_received p pixels words plan s =
    let lanes = lanes_count p.link.lanes in
    let g = first_group p pixels plan in
    let plain = symbols_there lanes (sets p pixels) words s in
    let n : length g.0.before ≡ header_start p 0 = ap length g.1 ∙ zeros_length p in
    let wide = wide_of lanes (sets p pixels) (sets_can_be_sent p pixels plan) in
    let r = received p.link.enhanced lanes (sets p pixels) words plain.0 g.0 (some_lanes p.link.lanes)
    (few_lanes p.link.lanes) wide s plain.1 in (
      plain.0,
      plain.1,
      subst (λ (k : ℕ). Received p.link.enhanced words plain.0 k (drop k (sets p pixels))) n r,
    )

gives : (p : PlanFacts) (pixels : List Pixel) (words : List (List ℕ)) → IsPlan p
    → SentWords (lanes_count p.link.lanes) (sets p pixels) words
    → Gives words (capture_clocks p) (λ plain. AreSets p.link.enhanced plain (all_sets p pixels))
gives p pixels words plan s =
    let r = words_received p pixels words plan s in
    let same : cut (capture_clocks p) words ≡ words =
    cut_all (capture_clocks p) words (λ lane l.
    omega (arith, capture_long p pixels words s lane (omega (arith, l, s.size)))) in
    record {
      no_fault = subst (λ (x : List (List ℕ)). NoFault x) (sym same) r.2.no_fault;
      plain = r.0;
      symbols = subst (λ (x : List (List ℕ)). Symbols x r.0) (sym same) r.1;
      sets = record { there = r.2.sets_there; no_others = r.2.no_others };
    }

-- ---- what is received of the bytes

body_is : (p : PlanFacts) (pixels : List Pixel) (bytes : List ℕ)
    → (c : IsCapture p pixels (header_bytes p.link ++ bytes))
    → bytes ≡ word_bytes (lanes_count p.link.lanes) (capture_clocks p) c.words
body_is p pixels bytes c = ap (drop 8) c.bytes_are

clocks_are : (lanes clocks : ℕ) (bytes : List ℕ) → 0 < lanes → length bytes ≡ 2 * (lanes * clocks)
    → (clocks_in lanes bytes ≡ clocks) × (left_over lanes bytes ≡ 0)
unfolding clocks_in left_over
clocks_are lanes clocks bytes some long =
    let e : length bytes ≡ clocks * (2 * lanes) + 0 = omega (arith, long) in
    let pos : 0 < 2 * lanes = omega (arith, some) in (
      ap (λ n. n / (2 * lanes)) e ∙ div-mul-add clocks (2 * lanes) 0 pos,
      ap (λ n. n % (2 * lanes)) e ∙ mod-mul-add clocks (2 * lanes) 0 pos,
    )

words_are : (lanes clocks : ℕ) (bytes : List ℕ) (words : List (List ℕ)) → clocks_in lanes bytes ≡ clocks
    → bytes ≡ word_bytes lanes clocks words → words_in lanes clocks (word_bytes lanes clocks words) ≡ words
    → received_words lanes bytes ≡ words
unfolding received_words
words_are lanes clocks bytes words e b back =
    ap (λ n. words_in lanes n bytes) e ∙ (ap (λ x. words_in lanes clocks x) b ∙ back)

pub captures_are_received : CapturesAreReceived
captures_are_received p pixels bytes plan whole c =
    let lanes = lanes_count p.link.lanes in
    let clocks = capture_clocks p in
    let b = body_is p pixels bytes c in
    let n = clocks_are lanes clocks bytes (some_lanes p.link.lanes)
    (ap length b ∙ length-word_bytes lanes clocks c.words) in
    let words : received_words lanes bytes ≡ c.words =
    words_are lanes clocks bytes c.words n.0 b
    (words_back lanes clocks c.words c.sent.size (capture_long p pixels c.words c.sent)) in
    let r = words_received p pixels c.words plan c.sent in
    let g = gives p pixels c.words plan c.sent in
    let inverse = inverts p pixels plan whole in
    let back = is_received p pixels (sent_frames p pixels) 0 plan whole inverse in
    let there : Gives (received_words lanes bytes) (clocks_in lanes bytes)
    (λ plain. AreSets p.link.enhanced plain (all_sets p pixels)) =
    subst (λ (x : List (List ℕ)). Gives x (clocks_in lanes bytes)
    (λ plain. AreSets p.link.enhanced plain (all_sets p pixels))) (sym words)
    (subst (λ (k : ℕ). Gives c.words k (λ plain. AreSets p.link.enhanced plain (all_sets p pixels))) (sym n.0) g) in
    record {
      received = record { sets = all_sets p pixels; up_to = there; accepted = inverse };
      lock = record {
        no_fault = subst (λ (x : List (List ℕ)). NoFault x) (sym words) r.2.no_fault;
        plain = r.0;
        symbols = subst (λ (x : List (List ℕ)). Symbols x r.0) (sym words) r.1;
        lock_is = r.2.lock;
      };
      whole = n.1;
      records = frame_records (sent_frames p pixels) ∙ ap pixel_records back.1;
      text = sent_text p pixels;
      frames = sent_whole p pixels;
      lines = sent_lines p pixels;
    }
