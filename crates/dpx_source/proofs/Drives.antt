-- What sending did, from how far it came.
use Rattle.std.proofs.Common.{◌≡◌, ℕ, ◌+◌, ◌-◌, ◌*◌, List, [], ◌++◌, length, take, replicate, Option, Some, None}
use Rattle.std.proofs.Common.{IfSome}
use Rattle.std.proofs.Common.{Result, Ok, Err, refl, sym, ap, subst, ◌∙◌, arith, append_assoc, append-nil}
use Rattle.std.proofs.Common.{length-append}
use Rattle.std.proofs.lemmas.Bool.Decides.{nat_tests}
use Rattle.std.proofs.lemmas.List.FromFn.{length-map-range_with_len}
use Rattle.std.specs.Io.KnownBytes.{Appends}
use Rattle.dpx_base.specs.declared.lanes.Lanes.{Lanes}
use Rattle.dpx_base.specs.declared.pixel.Pixel.{Pixel}
use Rattle.dpx_base.specs.declared.sym.Sym.{Sym}
use Rattle.dpx_base.specs.Beam.{pixels_before}
use Rattle.dpx_base.specs.Capture.{word_bytes, capture_clocks}
use Rattle.dpx_base.specs.Lanes.{lanes_count}
use Rattle.dpx_base.specs.Pipe.{PipeState}
use Rattle.dpx_base.specs.Plan.{PlanFacts, IsPlan, clocks}
use Rattle.dpx_base.specs.Sets.{sets, set_at}
use Rattle.dpx_base.proofs.Beams.{pixels_first}
use Rattle.dpx_lane.proofs.WholeRows.{sent_once}
use Rattle.dpx_lane.specs.Rows.{RowsFacts, no_rows}
use Rattle.dpx_lane.specs.Team.{TeamSent}
use Rattle.dpx_source.specs.declared.sending.DriveEnd.{DriveEnd}
use Rattle.dpx_source.specs.declared.sending.DriveEnd.TheVariants.{BadPixel, Ended, WriteFault}
use Rattle.dpx_source.specs.declared.sending.Sent.{Sent}
use Rattle.dpx_source.specs.Drive.{IsFront, HasBegun, TakenFront, TakenAll, pixel_count}
use Rattle.dpx_source.specs.Going.{Going, Ends, Sending, IsDriven, first_sets}
use Rattle.dpx_source.specs.Sender.{SenderState, IsNew}
use Rattle.dpx_source.specs.Ticker.{TickerState, shown}
use Rattle.dpx_base.specs.Transfer.{AppendsFront}
use Rattle.dpx_source.specs.WordWriter.{HasWrittenFront, HasWrittenAll, LanesSent, codes_of, rows_of, with_fills}
use Rattle.dpx_source.proofs.AllArrived.{all_come}
use Rattle.dpx_source.proofs.AllSent.{whole_sent, sent_is_whole, with_fills_length}
use Rattle.dpx_base.proofs.Appending.{appends_none}
use Rattle.dpx_source.proofs.Batches.{no_codes_of, sendable_none}
use Rattle.dpx_source.proofs.Fronts.{goes, take_front}
use Rattle.dpx_source.proofs.Stops.{given_front, told_front}
use Rattle.dpx_source.proofs.WordBytes.{bytes_none}

-- ---- nothing was sent yet

front_none : (told : Option (List Pixel)) → IfSome told (λ all. IsFront [] all)
front_none None = tt
front_none (Some all) = record { rest = all; is = refl }

pub sending_none : (s : SenderState) (pipe : PipeState) (taken : Option (List ℕ)) → HasBegun s.ticker.plan pipe
    → IsNew s
    → Sending s.ticker.plan [] pipe s.ticker s.rows s.team taken taken
sending_none s pipe taken begun new =
    let n = lanes_count s.team.lanes in
    let words : List (List ℕ) = replicate n [] in
    let rows : s.rows ≡ rows_of s.team.lanes [] =
    new.rows ∙ (ap no_rows (sym new.lanes) ∙ no_codes_of s.team.lanes) in
    let codes : replicate n [] ≡ codes_of s.team.lanes [] =
    ap (λ (r : RowsFacts). r.rows) (no_codes_of s.team.lanes) in
    record {
      going = record {
        handed = [];
        stands = new.stands;
        front = front_none pipe.pixels;
        count = sym (pixels_first (shown s.ticker.plan));
        within = omega arith;
        clock = begun.clock;
        good = refl;
        sets_of = λ more. refl;
        told = begun.no_sets;
      };
      wrote = record {
        flushed = [];
        waiting = [];
        parts = refl;
        sendable = sendable_none;
        rows_are = rows;
        words = words;
        sent = subst (λ c. TeamSent 0 s.team.states c words) codes new.team;
        taken = subst (λ (l : List ℕ). Appends taken taken l) (sym (bytes_none n words)) (appends_none taken);
      };
    }

-- ---- what was taken

sets_length : (p : PlanFacts) (pixels : List Pixel) → length (sets p pixels) ≡ clocks p
sets_length p pixels = length-map-range_with_len (set_at p pixels) 0 (clocks p)

all_length : (p : PlanFacts) (pixels : List Pixel)
    → length (with_fills p.link.lanes (sets p pixels)) ≡ capture_clocks p
all_length p pixels =
    with_fills_length p.link.lanes (sets p pixels)
    ∙ ap (λ k. k + 2 * (lanes_count p.link.lanes - 1)) (sets_length p pixels)

front_taken : (p : PlanFacts) (pixels : List Pixel) (given rest : List (List Sym)) (before now : Option (List ℕ))
    → given ++ rest ≡ with_fills p.link.lanes (sets p pixels)
    → HasWrittenFront (lanes_count p.link.lanes) given before now → TakenFront p pixels before now
front_taken p pixels given rest before now whole front words sent =
    let n = lanes_count p.link.lanes in
    let all = whole_sent p.link.lanes (sets p pixels) words sent in
    let long : length (given ++ rest) ≡ capture_clocks p = ap length whole ∙ all_length p pixels in
    subst (λ k. AppendsFront before now (word_bytes n k words)) long
    (front rest words (subst (λ (l : List (List Sym)). LanesSent n l words) (sym whole) all))

all_taken : (p : PlanFacts) (pixels : List Pixel) (before now : Option (List ℕ))
    → HasWrittenAll (lanes_count p.link.lanes) (with_fills p.link.lanes (sets p pixels)) before now
    → TakenAll p pixels before now
all_taken p pixels before now w = record {
  words = w.words;
  sent = sent_is_whole p.link.lanes (sets p pixels) w.words w.sent;
  taken = subst (λ k. Appends before now (word_bytes (lanes_count p.link.lanes) k w.words))
      (all_length p pixels) w.taken;
}

all_front : (p : PlanFacts) (pixels : List Pixel) (before now : Option (List ℕ)) → TakenAll p pixels before now
    → TakenFront p pixels before now
all_front p pixels before now w words sent =
    let n = lanes_count p.link.lanes in
    let bytes : List (List ℕ) → List ℕ = λ l. word_bytes n (capture_clocks p) l in
    let same : w.words ≡ words = sent_once n (sets p pixels) w.words words w.sent sent in
    record {
      front = bytes w.words;
      rest = [];
      divided = ap bytes (sym same) ∙ sym (append-nil (bytes w.words));
      taken = w.taken;
    }

-- ---- sending ended

pub driven_err : (p : PlanFacts) (end : DriveEnd) (before now : PipeState) (taken_before taken : Option (List ℕ))
    (ticker : TickerState) → now.pixels ≡ before.pixels → Ends p end now taken_before taken
    → IsDriven p (Err end) before now taken_before taken ticker
driven_err p end before now taken_before taken ticker same e =
    let s = e.stopped in
    let front = s.sets_of in
    let fills : List (List Sym) = with_fills p.link.lanes [] in
    let whole : e.given ++ (front.rest ++ fills) ≡ with_fills p.link.lanes (sets p s.pixels) =
    sym (append_assoc e.given front.rest fills) ∙ ap (λ (l : List (List Sym)). l ++ fills) front.is in
    record {
      pixels = s.pixels;
      told = rw (← same) s.told;
      drives = record {
        sets = s.handed;
        all_sets = tt;
        bytes = front_taken p s.pixels e.given (front.rest ++ fills) taken_before taken whole e.written;
        all_bytes = tt;
        stands = tt;
        whole = tt;
        bad_pixel = λ number value h. s.bad number value (inside end (BadPixel number value) h);
        ended = λ n h. s.ended n (inside end (Ended n) h);
      };
    }
  where
    inside : (a b : DriveEnd) → ◌≡◌ {A = Result Sent DriveEnd} (Err a) (Err b) → a ≡ b
    inside a b h = grind (arith, nat_tests)

-- all sets were given
given_all : (p : PlanFacts) (given : List (List Sym)) (pipe : PipeState) (ticker : TickerState)
    (g : Going p given pipe ticker) → length given ≡ clocks p → (more : List Pixel)
    → given ≡ sets p (g.handed ++ more)
given_all p given pipe ticker g size more =
    let f : ℕ → List (List Sym) = λ n. first_sets p (g.handed ++ more) n in
    g.sets_of more ∙ ap f size

pub driven_write : (p : PlanFacts) (given : List (List Sym)) (before now : PipeState)
    (taken_before taken : Option (List ℕ))
    (ticker after : TickerState) (lanes : Lanes) → lanes ≡ p.link.lanes → Going p given now ticker
    → length given ≡ clocks p
    → now.pixels ≡ before.pixels
    → HasWrittenFront (lanes_count lanes) (with_fills lanes given) taken_before taken
    → IsDriven p (Err WriteFault) before now taken_before taken after
driven_write p given before now taken_before taken ticker after lanes same_lanes g size same w =
    let m = goes g.handed now.pixels g.front in
    let pixels : List Pixel = g.handed ++ m.more in
    let all = given_all p given now ticker g size m.more in
    let here =
    subst (λ (l : Lanes). HasWrittenFront (lanes_count l) (with_fills l given) taken_before taken) same_lanes w in
    let whole : with_fills p.link.lanes given ++ [] ≡ with_fills p.link.lanes (sets p pixels) =
    append-nil (with_fills p.link.lanes given) ∙ ap (with_fills p.link.lanes) all in
    record {
      pixels = pixels;
      told = rw (← same) m.all;
      drives = record {
        sets = told_front now.sets given (sets p pixels) g.told (given_front p given now ticker g m.more);
        all_sets = tt;
        bytes = front_taken p pixels (with_fills p.link.lanes given) [] taken_before taken whole here;
        all_bytes = tt;
        stands = tt;
        whole = tt;
        bad_pixel = λ number value e. grind (arith, nat_tests);
        ended = λ n e. grind (arith, nat_tests);
      };
    }

told_all : (told : Option (List (List Sym))) (given all : List (List Sym)) → IfSome told (λ sets. sets ≡ given)
    → given ≡ all → IfSome told (λ sets. sets ≡ all)
told_all None given all h e = tt
told_all (Some sets) given all h e = h ∙ e

pub driven_ok : (p : PlanFacts) (sent : Sent) (given : List (List Sym)) (before now : PipeState)
    (taken_before taken : Option (List ℕ)) (ticker : TickerState) (lanes : Lanes) → IsPlan p → lanes ≡ p.link.lanes
    → Going p given now ticker → length given ≡ clocks p → now.pixels ≡ before.pixels
    → HasWrittenAll (lanes_count lanes) (with_fills lanes given) taken_before taken
    → IsDriven p (Ok sent) before now taken_before taken ticker
driven_ok p sent given before now taken_before taken ticker lanes plan same_lanes g size same w =
    let m = goes g.handed now.pixels g.front in
    let pixels : List Pixel = g.handed ++ m.more in
    let all = given_all p given now ticker g size m.more in
    let here =
    subst (λ (l : Lanes). HasWrittenAll (lanes_count l) (with_fills l given) taken_before taken) same_lanes w in
    let there = subst (λ (l : List (List Sym)). HasWrittenAll (lanes_count p.link.lanes) (with_fills p.link.lanes l)
    taken_before taken) all here in
    let bytes = all_taken p pixels taken_before taken there in
    let count : length g.handed ≡ pixel_count p = g.count ∙ (ap (pixels_before (shown p)) size ∙ all_come p plan) in
    let front : take (pixel_count p) pixels ≡ g.handed = take_front g.handed m.more (pixel_count p) count in
    record {
      pixels = pixels;
      told = rw (← same) m.all;
      drives = record {
        sets = told_front now.sets given (sets p pixels) g.told (given_front p given now ticker g m.more);
        all_sets = told_all now.sets given (sets p pixels) g.told all;
        bytes = all_front p pixels taken_before taken bytes;
        all_bytes = bytes;
        stands = rw front g.stands;
        whole = record {
          there = omega (arith, count, length-append g.handed m.more);
          good = rw front g.good;
        };
        bad_pixel = λ number value e. grind (arith, nat_tests);
        ended = λ n e. grind (arith, nat_tests);
      };
    }
