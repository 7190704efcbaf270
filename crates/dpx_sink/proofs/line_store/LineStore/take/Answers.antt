use Rattle.std.proofs.Common.{arith}
use Rattle.dpx_sink.specs.Room.{line_room}
use Rattle.dpx_sink.proofs.Stores.{stored, full}
use Rattle.dpx_sink.proofs.line_store.LineStore.take.Goals as goal

pub returns-then-len-lt-LINE_ROOM : goal.returns-then-len-lt-LINE_ROOM
returns-then-len-lt-LINE_ROOM c = λ rows held.
    stored rows _ _ c.args.row line_room c.push_reserved.ensures.items held
    (omega (arith, c.if-len-lt-LINE_ROOM.true, c.len.ensures))

pub returns-else-len-lt-LINE_ROOM : goal.returns-else-len-lt-LINE_ROOM
returns-else-len-lt-LINE_ROOM c = λ rows held.
    full rows _ c.args.row line_room held (omega (arith, c.if-len-lt-LINE_ROOM.false, c.len.ensures))
