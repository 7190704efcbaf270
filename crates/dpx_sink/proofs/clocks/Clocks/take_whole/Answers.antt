use Rattle.std.proofs.Common.{◌≡◌, ◌∙◌, ◌*◌, ◌/◌, ◌+◌, ◌++◌, ℕ, List, [], length, sym, ap, subst, arith}
use Rattle.std.proofs.Common.{length-append, refl}
use Rattle.dpx_base.specs.Capture.{words_in}
use Rattle.dpx_base.specs.Lanes.{lanes_count}
use Rattle.dpx_lane.specs.Team.{joined}
use Rattle.dpx_reception.specs.Bytes.{received_words}
use Rattle.dpx_sink.specs.Clocks.{IsCut, framing_of, bytes_in}
use Rattle.dpx_sink.specs.Reader.{HasReadWhole, HasBadWord, HasBadSet, HasSome}
use Rattle.dpx_sink.proofs.Batches.{batch_words, whole_clocks, has_read, cut_on, read_on, in_front, on_ok, bytes_on}
use Rattle.dpx_sink.proofs.Batches.{few_clocks}
use Rattle.dpx_sink.proofs.Writes.{went_map}
use Rattle.dpx_sink.proofs.clocks.Clocks.take_whole.Goals as goal

pub returns-clause-went : goal.returns-clause-went
returns-clause-went g c = λ bytes p l st.
    let link = c.args.self.now.link in
    let f = framing_of link in
    let lanes : ℕ = lanes_count link.lanes in
    let piece : List ℕ = c.args.piece.now in
    let n : ℕ = length piece / (2 * lanes) in
    let cut : IsCut lanes bytes st.done [] = subst (λ xs. IsCut lanes bytes st.done xs) c.requires.none st.cut in
    let whole : length piece ≡ n * (2 * lanes) = whole_clocks lanes piece c.requires.whole in
    let rows : c.read_words.new.self.rows ≡ received_words lanes piece =
    ap (λ r. r.rows) c.read_words.ensures
    ∙ (ap (λ k. words_in (lanes_count k) (length piece / (2 * lanes_count k)) piece) c.requires.ready.rows
    ∙ batch_words lanes piece) in
    let words = received_words lanes st.done in
    let same : joined words c.read_words.new.self.rows ≡ joined words (received_words lanes piece) =
    ap (λ r. joined words r) rows in
    went_map _ _ p l _ _ _ _ _ _ _ _ c.batch.result
    (λ done q m h. record {
      done = st.done ++ piece;
      cut = subst (λ xs. IsCut lanes (bytes ++ piece) (st.done ++ piece) xs) (sym c.requires.none)
          (cut_on link n bytes st.done [] piece cut whole);
      fed = bytes_on c.args.self.now.clocks (length piece / c.wide.result) (2 * lanes)
          (length c.args.self.now.left.items) (length c.args.self.now.left.items) (length bytes) (length piece) st.fed
          (omega (arith, subst (λ k. length piece ≡ length piece / k * (2 * lanes)) (sym c.wide.ensures) whole))
          ∙ sym (length-append bytes piece);
      read = read_on link n bytes st.done [] piece cut whole c.batch.new.self q m
          (subst (λ w. HasReadWhole f c.batch.new.self w q m) same h);
    })
    (λ bad q m h. in_front link n bytes st.done [] piece cut whole (λ w. HasBadWord f w bad q m)
    (subst (λ w. HasBadWord f w bad q m) same h))
    (λ bad q m h. in_front link n bytes st.done [] piece cut whole (λ w. HasBadSet f w bad q m)
    (subst (λ w. HasBadSet f w bad q m) same h))
    (λ q m h. in_front link n bytes st.done [] piece cut whole (λ w. HasSome f w q m)
    (subst (λ w. HasSome f w q m) same h))
    (c.batch.ensures.went f words p l c.requires.ready.agrees
    (has_read f c.args.self.now.reader words p l st.read))

pub returns-clause-ready : goal.returns-clause-ready
returns-clause-ready g c =
    let link = c.args.self.now.link in
    let wide : ℕ = 2 * lanes_count link.lanes in
    let piece : List ℕ = c.args.piece.now in
    let ready = c.requires.ready in
    let clocks : c.read_words.new.self.clocks ≡ length piece / wide =
    ap (λ r. r.clocks) c.read_words.ensures ∙ ap (λ k. length piece / (2 * lanes_count k)) ready.rows in
    let whole = whole_clocks (lanes_count link.lanes) piece c.requires.whole in
    let same : length piece / c.wide.result ≡ length piece / wide = ap (λ k. length piece / k) c.wide.ensures in
    let left : length c.args.self.now.left.items ≡ 0 = ap length c.requires.none in
    on_ok c.batch.result (λ rests. record {
      agrees = c.batch.ensures.agrees (framing_of link) ready.agrees;
      rows = c.batch.ensures.rows ∙ (ap (λ r. r.lanes) c.read_words.ensures ∙ ready.rows);
      short = ready.short;
      fed = omega (arith, c.batch.ensures.fed, clocks, ready.fed, same);
      few = few_clocks (c.args.self.now.clocks + length piece / c.wide.result) wide 0
          (omega (
            arith,
            c.requires.few,
            bytes_on c.args.self.now.clocks (length piece / c.wide.result) wide
                (length c.args.self.now.left.items) 0 (bytes_in c.args.self.now) (length piece) refl
                (omega (arith, left, subst (λ k. length piece ≡ length piece / k * wide) (sym c.wide.ensures) whole)),
          ));
      rests = rests;
    }) c.batch.ensures.rested
