-- A set more in the rows, and a batch of them written.
use Rattle.std.proofs.Common.{◌≡◌, ℕ, zero, suc, ◌<◌, ◌≤◌, ◌+◌, ◌-◌, ◌*◌, ◌%◌, Bool, true, false, IsTrue, List, []}
use Rattle.std.proofs.Common.{◌∷◌, ◌++◌, length}
use Rattle.std.proofs.Common.{map, replicate, refl, sym, ap, subst, ◌∙◌, arith, length-append, append_assoc}
use Rattle.std.proofs.Common.{append-nil, Option}
use Rattle.std.specs.Prelude.{slice_index_or, nat_lt, ◌||◌, ◌&&◌}
use Rattle.std.specs.List.{range_with_len}
use Rattle.std.specs.Io.KnownBytes.{Appends}
use Rattle.std.proofs.lemmas.Bool.Decides.{nat_tests}
use Rattle.std.proofs.lemmas.List.{map-append, map_push, get_or_append_left, replicate-append-replicate}
use Rattle.dpx_base.specs.Capture.{word_bytes}
use Rattle.dpx_base.specs.Code.{IsSymbol, is_control}
use Rattle.dpx_base.specs.Lanes.{lanes_count}
use Rattle.dpx_base.specs.Words.{fill, Sendable, column, words_of}
use Rattle.dpx_base.specs.declared.lanes.Lanes.{Lanes}
use Rattle.dpx_base.specs.declared.lanes.Lanes.TheVariants.{One, Two, Four}
use Rattle.dpx_base.specs.declared.sym.Sym.{Sym}
use Rattle.dpx_lane.specs.Codes.{code_of, is_code, AllCodes}
use Rattle.dpx_lane.specs.Rows.{RowsFacts, lane_by_lane, no_rows}
use Rattle.dpx_lane.specs.Sending.{SendsRow}
use Rattle.dpx_lane.specs.Team.{TeamFacts, TeamSent, LanesDo, EachLane, joined}
use Rattle.dpx_lane.specs.declared.lane_tx.LaneTx.{LaneTx}
use Rattle.dpx_lane.proofs.Sends.{codes_join}
use Rattle.dpx_lane.proofs.Teams.{team_sends}
use Rattle.dpx_source.specs.Framing.{AreSymbols}
use Rattle.dpx_base.specs.Transfer.{AppendsFront}
use Rattle.dpx_source.specs.WordWriter.{HasWritten, HasWrittenFront, HasWrittenAll, LanesSent, codes_of, rows_of}
use Rattle.dpx_source.specs.WordWriter.{with_fills}
use Rattle.dpx_base.proofs.Appending.{appends_more, all_front, front_more}
use Rattle.dpx_source.proofs.LaneSents.{some_lane, team_sent, sent_length, bytes_front}
use Rattle.dpx_source.proofs.WordBytes.{Joins, bytes_join}

-- ---- codes

pub code_is : (symbol : Sym) → IsSymbol symbol → IsTrue (is_code (code_of symbol))
code_is symbol h = go symbol.control symbol.byte h
  where
    low : (byte : ℕ) → byte < 256 → is_code (byte + 0) ≡ true
    low byte h = grind (arith, nat_tests)

    control : (byte : ℕ) (k : Bool) → byte < 256 → k ≡ true → (byte + 256) % 256 ≡ byte
        → (nat_lt (byte + 256) 256 || (nat_lt (byte + 256) 512 && k)) ≡ true
    control byte k h e f = grind (arith, nat_tests)

    go : (c : Bool) (byte : ℕ) → IsSymbol (record { control = c; byte = byte })
        → IsTrue (is_code (code_of (record { control = c; byte = byte })))
    go true byte h =
        let e : (byte + 256) % 256 ≡ byte = omega (arith, h.0) in
        control byte (is_control ((byte + 256) % 256)) h.0 (ap is_control e ∙ h.1) e
    go false byte h = low byte h.0

no_codes : AllCodes []
no_codes k few = absurd (omega (arith, few))

one_code : (code : ℕ) → IsTrue (is_code code) → AllCodes (code ∷ [])
one_code code h zero few = h
one_code code h (suc k) few = absurd (omega (arith, few))

-- rows of codes, with a code more on each
pub codes_more : (rows : List (List ℕ)) (set : List Sym) → ((lane : ℕ) → AllCodes (words_of rows lane))
    → AreSymbols set
    → (lane : ℕ) → AllCodes (words_of (lane_by_lane (λ row sym. row ++ code_of sym ∷ []) rows set) lane)
codes_more [] set h can lane = no_codes
codes_more (row ∷ rows) [] h can lane = no_codes
codes_more (row ∷ rows) (sym ∷ set) h can zero =
    codes_join row (code_of sym ∷ []) (h 0) (one_code (code_of sym) (code_is sym (can 0)))
codes_more (row ∷ rows) (sym ∷ set) h can (suc lane) = codes_more rows set (λ l. h (suc l)) (λ l. can (suc l)) lane

pub none_codes : (n : ℕ) (lane : ℕ) → AllCodes (words_of (replicate n []) lane)
none_codes zero lane = no_codes
none_codes (suc n) zero = no_codes
none_codes (suc n) (suc lane) = none_codes n lane

pub each_takes : (states : List LaneTx) (rows : List (List ℕ)) → ((lane : ℕ) → AllCodes (words_of rows lane))
    → EachLane (λ (s : LaneTx) (row : List ℕ). AllCodes row) states rows
each_takes [] rows h = tt
each_takes (s ∷ states) [] h = tt
each_takes (s ∷ states) (row ∷ rows) h = (h 0, each_takes states rows (λ lane. h (suc lane)))

column_more : (lane : ℕ) (sets : List (List Sym)) (set : List Sym)
    → map code_of (column lane (sets ++ set ∷ []))
    ≡ map code_of (column lane sets) ++ code_of (slice_index_or set lane fill) ∷ []
column_more lane sets set =
    ap (map code_of) (map_push (λ s. slice_index_or s lane fill) sets set)
    ∙ map_push code_of (column lane sets) (slice_index_or set lane fill)

abbrev pub pushed : RowsFacts → List Sym → RowsFacts
pushed rows set = record {
  lanes = rows.lanes;
  rows = lane_by_lane (λ row sym. row ++ code_of sym ∷ []) rows.rows set;
  clocks = rows.clocks + 1;
}

-- the rows of a set more
pub rows_more : (lanes : Lanes) (sets : List (List Sym)) (set : List Sym) → length set ≡ lanes_count lanes
    → pushed (rows_of lanes sets) set ≡ rows_of lanes (sets ++ set ∷ [])
rows_more lanes sets set size =
    let clocks : length sets + 1 ≡ length (sets ++ set ∷ []) = sym (length-append sets (set ∷ [])) in
    made lanes _ _ _ _ (codes lanes set size) clocks
  where
    made : (lanes : Lanes) (a b : List (List ℕ)) (m n : ℕ) → a ≡ b → m ≡ n
        → ◌≡◌ {A = RowsFacts} (record { lanes = lanes; rows = a; clocks = m })
        (record { lanes = lanes; rows = b; clocks = n })
    made lanes a b m n e f = cc

    codes : (lanes : Lanes) (set : List Sym) → length set ≡ lanes_count lanes
        → lane_by_lane (λ row sym. row ++ code_of sym ∷ []) (codes_of lanes sets) set
        ≡ codes_of lanes (sets ++ set ∷ [])
    codes One (a ∷ []) e = let x = column_more 0 sets (a ∷ []) in cc
    codes Two (a ∷ b ∷ []) e =
        let x = column_more 0 sets (a ∷ b ∷ []) in
        let y = column_more 1 sets (a ∷ b ∷ []) in
        cc
    codes Four (a ∷ b ∷ c ∷ d ∷ []) e =
        let x = column_more 0 sets (a ∷ b ∷ c ∷ d ∷ []) in
        let y = column_more 1 sets (a ∷ b ∷ c ∷ d ∷ []) in
        let z = column_more 2 sets (a ∷ b ∷ c ∷ d ∷ []) in
        let w = column_more 3 sets (a ∷ b ∷ c ∷ d ∷ []) in
        cc
    codes lanes set e = absurd (omega (arith, e))

joined_map : (f g : ℕ → List ℕ) (js : List ℕ) → joined (map f js) (map g js) ≡ map (λ j. f j ++ g j) js
joined_map f g [] = refl
joined_map f g (j ∷ js) = ap (λ l. (f j ++ g j) ∷ l) (joined_map f g js)

map_same : (f g : ℕ → List ℕ) (js : List ℕ) → ((j : ℕ) → f j ≡ g j) → map f js ≡ map g js
map_same f g [] h = refl
map_same f g (j ∷ js) h = let e = h j in let rest = map_same f g js h in cc

codes_joined : (lanes : Lanes) (xs ys : List (List Sym))
    → joined (codes_of lanes xs) (codes_of lanes ys) ≡ codes_of lanes (xs ++ ys)
codes_joined lanes xs ys =
    let f : ℕ → List ℕ = λ lane. map code_of (column lane xs) in
    let g : ℕ → List ℕ = λ lane. map code_of (column lane ys) in
    let h : ℕ → List ℕ = λ lane. map code_of (column lane (xs ++ ys)) in
    joined_map f g (range_with_len 0 (lanes_count lanes))
    ∙ map_same (λ j. f j ++ g j) h (range_with_len 0 (lanes_count lanes))
    (λ j. sym
    (ap (map code_of) (map-append (λ set. slice_index_or set j fill) xs ys)
    ∙ map-append code_of (column j xs) (column j ys)))

joined_at : (a b : List (List ℕ)) (lane : ℕ) → length a ≡ length b → lane < length a
    → words_of (joined a b) lane ≡ words_of a lane ++ words_of b lane
joined_at [] b lane e few = absurd (omega (arith, few))
joined_at (x ∷ a) [] lane e few = absurd (omega (arith, e))
joined_at (x ∷ a) (y ∷ b) zero e few = refl
joined_at (x ∷ a) (y ∷ b) (suc lane) e few = joined_at a b lane (omega (arith, e)) (omega (arith, few))

-- ---- what can be sent

pub sendable_none : Sendable []
sendable_none k lane few = absurd (omega (arith, few))

pub sendable_more : (sets : List (List Sym)) (set : List Sym) → Sendable sets → AreSymbols set
    → Sendable (sets ++ set ∷ [])
sendable_more [] set h can zero lane few = can lane
sendable_more [] set h can (suc k) lane few = absurd (omega (arith, few))
sendable_more (x ∷ sets) set h can zero lane few = h 0 lane (omega arith)
sendable_more (x ∷ sets) set h can (suc k) lane few =
    sendable_more sets set (λ i l i_few. h (suc i) l (omega (arith, i_few))) can k lane (omega (arith, few))

pub sendable_front : (xs ys : List (List Sym)) → Sendable (xs ++ ys) → Sendable xs
sendable_front xs ys h k lane few =
    subst (λ (set : List Sym). IsSymbol (slice_index_or set lane fill)) (get_or_append_left xs ys [] k few)
    (h k lane (omega (arith, few, length-append xs ys)))

-- ---- a batch

pub written_push : (rows : RowsFacts) (team : TeamFacts LaneTx) (given : List (List Sym)) (set : List Sym)
    (before now : Option (List ℕ)) → length set ≡ lanes_count team.lanes → AreSymbols set
    → HasWritten rows team given before now → HasWritten (pushed rows set) team (given ++ set ∷ []) before now
written_push rows team given set before now size can w = record {
  flushed = w.flushed;
  waiting = w.waiting ++ set ∷ [];
  parts = ap (λ l. l ++ set ∷ []) w.parts ∙ append_assoc w.flushed w.waiting (set ∷ []);
  sendable = sendable_more given set w.sendable can;
  rows_are = ap (λ (r : RowsFacts). pushed r set) w.rows_are ∙ rows_more team.lanes w.waiting set size;
  words = w.words;
  sent = w.sent;
  taken = w.taken;
}

-- What is sent of all sets once the rows ran: the words of those before, and then the rows.
pub record Ran (team after : TeamFacts LaneTx) (given : List (List Sym)) (rows outs : RowsFacts)
    (bytes : List ℕ) : Type 0 where
  pub words : List (List ℕ)
  pub sent : TeamSent 0 after.states (codes_of after.lanes given) words
  pub is : word_bytes (lanes_count after.lanes) (length given) words
      ≡ bytes ++ word_bytes (lanes_count after.lanes) outs.clocks outs.rows

pub rows_run : (rows outs : RowsFacts) (team after : TeamFacts LaneTx) (given : List (List Sym))
    (before now : Option (List ℕ))
    (w : HasWritten rows team given before now) → LanesDo SendsRow team.states rows.rows after.states outs.rows
    → after.lanes ≡ team.lanes → outs.clocks ≡ rows.clocks → length outs.rows ≡ lanes_count team.lanes
    → Ran team after given rows outs (word_bytes (lanes_count team.lanes) (length w.flushed) w.words)
rows_run rows outs team after given before now w does same clocks size =
    let n = lanes_count team.lanes in
    let words = joined w.words outs.rows in
    let row : rows.rows ≡ codes_of team.lanes w.waiting = ap (λ (r : RowsFacts). r.rows) w.rows_are in
    let count : rows.clocks ≡ length w.waiting = ap (λ (r : RowsFacts). r.clocks) w.rows_are in
    let work =
    team_sends 0 team.states after.states (codes_of team.lanes w.flushed) w.words rows.rows outs.rows does w.sent in
    let all : joined (codes_of team.lanes w.flushed) rows.rows ≡ codes_of team.lanes given =
    ap (λ l. joined (codes_of team.lanes w.flushed) l) row
    ∙ (codes_joined team.lanes w.flushed w.waiting ∙ ap (codes_of team.lanes) (sym w.parts)) in
    let can : Sendable w.flushed = sendable_front w.flushed w.waiting (subst Sendable w.parts w.sendable) in
    let stood = team_sent team.lanes team.states w.flushed w.words can w.sent in
    let joins : Joins n (length w.flushed) rows.clocks w.words outs.rows words = record {
      some = some_lane team.lanes;
      front = sent_length n w.flushed w.words stood;
      each = λ lane few. joined_at w.words outs.rows lane (stood.size ∙ sym size) (omega (arith, few, stood.size));
    } in
    let long : length given ≡ length w.flushed + rows.clocks =
    omega (arith, ap length w.parts, length-append w.flushed w.waiting, count) in
    rw (same, clocks) (record {
      words = words;
      sent = subst (λ c. TeamSent 0 after.states c words) all work;
      is = ap (λ z. word_bytes n z words) long
          ∙ bytes_join n (length w.flushed) rows.clocks w.words outs.rows words joins;
    })

pub no_codes_of : (lanes : Lanes) → no_rows lanes ≡ rows_of lanes []
no_codes_of One = refl
no_codes_of Two = refl
no_codes_of Four = refl

-- the batch was taken whole
pub batch_written : (rows outs after_rows : RowsFacts) (team after : TeamFacts LaneTx) (given : List (List Sym))
    (before middle now : Option (List ℕ))
    → HasWritten rows team given before middle → LanesDo SendsRow team.states rows.rows after.states outs.rows
    → after.lanes ≡ team.lanes → outs.clocks ≡ rows.clocks → length outs.rows ≡ lanes_count team.lanes
    → after_rows ≡ no_rows team.lanes
    → Appends middle now (word_bytes (lanes_count team.lanes) outs.clocks outs.rows)
    → HasWritten after_rows after given before now
batch_written rows outs after_rows team after given before middle now w does same clocks size none taken =
    let r = rows_run rows outs team after given before middle w does same clocks size in
    let batch : Appends middle now (word_bytes (lanes_count after.lanes) outs.clocks outs.rows) =
    subst (λ (l : Lanes). Appends middle now (word_bytes (lanes_count l) outs.clocks outs.rows)) (sym same) taken in
    record {
      flushed = given;
      waiting = [];
      parts = sym (append-nil given);
      sendable = w.sendable;
      rows_are = none ∙ (ap no_rows (sym same) ∙ no_codes_of after.lanes);
      words = r.words;
      sent = r.sent;
      taken = subst (λ (l : List ℕ). Appends before now l) (sym r.is)
          (appends_more before middle now (word_bytes (lanes_count team.lanes) (length w.flushed) w.words)
          (word_bytes (lanes_count after.lanes) outs.clocks outs.rows) w.taken batch);
    }

-- a front of the batch was taken
pub batch_front : (rows outs : RowsFacts) (team after : TeamFacts LaneTx) (given : List (List Sym))
    (before middle now : Option (List ℕ))
    → HasWritten rows team given before middle → LanesDo SendsRow team.states rows.rows after.states outs.rows
    → after.lanes ≡ team.lanes → outs.clocks ≡ rows.clocks → length outs.rows ≡ lanes_count team.lanes
    → AppendsFront middle now (word_bytes (lanes_count team.lanes) outs.clocks outs.rows)
    → HasWrittenFront (lanes_count team.lanes) given before now
batch_front rows outs team after given before middle now w does same clocks size front more words sent =
    let n = lanes_count team.lanes in
    let r = rows_run rows outs team after given before middle w does same clocks size in
    let stood : LanesSent n given r.words =
    subst (λ (l : Lanes). LanesSent (lanes_count l) given r.words) same
    (team_sent after.lanes after.states given r.words w.sendable r.sent) in
    let all = bytes_front n given more r.words words (some_lane team.lanes) stood sent in
    let flushed = word_bytes n (length w.flushed) w.words in
    let batch = word_bytes n outs.clocks outs.rows in
    let is : word_bytes n (length given) r.words ≡ flushed ++ batch =
    subst (λ (l : Lanes). word_bytes (lanes_count l) (length given) r.words
    ≡ flushed ++ word_bytes (lanes_count l) outs.clocks outs.rows) same r.is in
    front_more before middle now flushed batch all.rest (word_bytes n (length (given ++ more)) words)
    (all.is ∙ ap (λ l. l ++ all.rest) is) w.taken front

-- what was written so far is a front
pub written_front : (rows : RowsFacts) (team : TeamFacts LaneTx) (given : List (List Sym))
    (before now : Option (List ℕ))
    → HasWritten rows team given before now → HasWrittenFront (lanes_count team.lanes) given before now
written_front rows team given before now w more words sent =
    let n = lanes_count team.lanes in
    let can : Sendable w.flushed = sendable_front w.flushed w.waiting (subst Sendable w.parts w.sendable) in
    let stood = team_sent team.lanes team.states w.flushed w.words can w.sent in
    let whole : given ++ more ≡ w.flushed ++ (w.waiting ++ more) =
    ap (λ l. l ++ more) w.parts ∙ append_assoc w.flushed w.waiting more in
    let all =
    bytes_front n w.flushed (w.waiting ++ more) w.words words (some_lane team.lanes) stood
    (subst (λ l. LanesSent n l words) whole sent) in
    all_front before now (word_bytes n (length w.flushed) w.words) all.rest
    (word_bytes n (length (given ++ more)) words)
    (ap (λ l. word_bytes n (length l) words) whole ∙ all.is) w.taken

-- a front of less is a front of more
pub front_on : (lanes : ℕ) (given more : List (List Sym)) (before now : Option (List ℕ))
    → HasWrittenFront lanes given before now
    → HasWrittenFront lanes (given ++ more) before now
front_on lanes given more before now h rest words sent =
    let e : (given ++ more) ++ rest ≡ given ++ (more ++ rest) = append_assoc given more rest in
    subst (λ l. AppendsFront before now (word_bytes lanes (length l) words)) (sym e)
    (h (more ++ rest) words (subst (λ l. LanesSent lanes l words) e sent))

-- ---- the end

-- some of the fills, and all
pub fills_on : (lanes : Lanes) (given : List (List Sym)) (before now : Option (List ℕ)) (done : ℕ)
    → done ≤ 2 * (lanes_count lanes - 1)
    → HasWrittenFront (lanes_count lanes) (given ++ replicate done (replicate (lanes_count lanes) fill)) before now
    → HasWrittenFront (lanes_count lanes) (with_fills lanes given) before now
fills_on lanes given before now done h front =
    let f : List Sym = replicate (lanes_count lanes) fill in
    let n = 2 * (lanes_count lanes - 1) in
    let g : ℕ → List (List Sym) = λ k. replicate k f in
    let i : List (List Sym) → List (List Sym) = λ l. given ++ l in
    let e : (given ++ replicate done f) ++ replicate (n - done) f ≡ with_fills lanes given =
    append_assoc given (replicate done f) (replicate (n - done) f)
    ∙ ap i (replicate-append-replicate done (n - done) f
    ∙ ap g {x = done + (n - done)} {y = n} (omega (arith, h))) in
    subst (λ (l : List (List Sym)). HasWrittenFront (lanes_count lanes) l before now) e
    (front_on (lanes_count lanes) (given ++ replicate done f) (replicate (n - done) f) before now front)

-- a fill more
pub fill_more : (given : List (List Sym)) (set : List Sym) (done : ℕ)
    → (given ++ replicate done set) ++ set ∷ [] ≡ given ++ replicate (done + 1) set
fill_more given set done =
    append_assoc given (replicate done set) (set ∷ [])
    ∙ ap (λ (l : List (List Sym)). given ++ l) (replicate-append-replicate done 1 set)

-- where nothing waits, all was taken
pub written_all : (rows : RowsFacts) (team : TeamFacts LaneTx) (given : List (List Sym))
    (before now : Option (List ℕ))
    → rows.clocks ≡ 0 → HasWritten rows team given before now
    → HasWrittenAll (lanes_count team.lanes) given before now
written_all rows team given before now none w =
    let count : length w.waiting ≡ 0 = sym (ap (λ (r : RowsFacts). r.clocks) w.rows_are) ∙ none in
    let e : given ≡ w.flushed =
    w.parts ∙ (ap (λ l. w.flushed ++ l) (empty w.waiting count) ∙ append-nil w.flushed) in
    let can : Sendable w.flushed = sendable_front w.flushed w.waiting (subst Sendable w.parts w.sendable) in
    subst (λ (l : List (List Sym)). HasWrittenAll (lanes_count team.lanes) l before now) (sym e) (record {
      words = w.words;
      sent = team_sent team.lanes team.states w.flushed w.words can w.sent;
      taken = w.taken;
    })
  where
    empty : (xs : List (List Sym)) → length xs ≡ 0 → xs ≡ []
    empty [] h = refl
    empty (x ∷ xs) h = absurd (omega (arith, h))
