use Rattle.std.proofs.Common.{◌≡◌, ◌+◌, ◌*◌, ◌/◌, ◌∙◌, sym, ap, length, arith}
use Rattle.dpx_base.specs.Lanes.{lanes_count}
use Rattle.dpx_lane.proofs.Bytes.{some_lane, cleared, within, piece_is, piece_long, rows_more, rows_read}
use Rattle.dpx_lane.proofs.lane_rows.LaneRows.read_words.Goals as goal

pub loop-done-init : goal.loop-done-init
loop-done-init c = cleared _ c.args.bytes.now c.clear.new.self c.clear.ensures

pub push_words-requires-clause-room : goal.push_words-requires-clause-room
push_words-requires-clause-room c =
    let lanes = c.args.self.now.lanes in
    let e : c.from-size.result ≡ lanes_count lanes =
    c.from-size.ensures ∙ (c.count.ensures ∙ ap (λ r. lanes_count r.lanes) c.self.view_is) in
    let w =
    within (lanes_count lanes) c.from-size.result (length c.args.bytes.now) c.loop-done.done (some_lane lanes) e
    c.requires.few c.loop-done-test.true in
    let k : c.loop-done.self.clocks ≡ c.loop-done.done = ap (λ r. r.clocks) c.loop-done.invariant in
    omega (arith, w.0, k)

pub push_words-requires-clause-size : goal.push_words-requires-clause-size
push_words-requires-clause-size c =
    let lanes = c.args.self.now.lanes in
    let e : c.from-size.result ≡ lanes_count lanes =
    c.from-size.ensures ∙ (c.count.ensures ∙ ap (λ r. lanes_count r.lanes) c.self.view_is) in
    let w =
    within (lanes_count lanes) c.from-size.result (length c.args.bytes.now) c.loop-done.done (some_lane lanes) e
    c.requires.few c.loop-done-test.true in
    let l : c.loop-done.self.lanes ≡ lanes =
    ap (λ r. r.lanes) c.loop-done.invariant ∙ ap (λ r. r.lanes) c.clear.ensures in
    piece_long c.from-size.result c.loop-done.done c.args.bytes.now w.1 ∙ ap (λ z. 2 * z) (e ∙ sym (ap lanes_count l))

pub loop-done-preserved : goal.loop-done-preserved
loop-done-preserved c =
    let lanes = c.args.self.now.lanes in
    let now = c.clear.new.self.lanes in
    let e : c.from-size.result ≡ lanes_count lanes =
    c.from-size.ensures ∙ (c.count.ensures ∙ ap (λ r. lanes_count r.lanes) c.self.view_is) in
    let l : now ≡ lanes = ap (λ r. r.lanes) c.clear.ensures in
    rows_more now c.args.bytes.now _ c.loop-done.done c.loop-done.self c.push_words.new.self c.loop-done.invariant
    (piece_is (lanes_count now) c.from-size.result c.loop-done.done c.args.bytes.now (e ∙ sym (ap lanes_count l)))
    c.push_words.ensures

pub returns : goal.returns
returns c =
    let lanes = c.args.self.now.lanes in
    let bytes = c.args.bytes.now in
    let e : c.from-size.result ≡ lanes_count lanes =
    c.from-size.ensures ∙ (c.count.ensures ∙ ap (λ r. lanes_count r.lanes) c.self.view_is) in
    let l : c.clear.new.self.lanes ≡ lanes = ap (λ r. r.lanes) c.clear.ensures in
    let all : c.loop-done.done ≡ length bytes / (2 * c.from-size.result) =
    omega (arith, c.loop-done-test.false, c.loop-done.auto.done-end) in
    c.loop-done.invariant
    ∙ (ap (λ x. rows_read x bytes c.loop-done.done) l
    ∙ ap (λ n. rows_read lanes bytes n) (all ∙ ap (λ z. length bytes / (2 * z)) e))
