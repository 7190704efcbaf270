-- How a line buffer keeps what is seen of it.
use Rattle.std.specs.Prelude.{◌≡◌}
use Rattle.dpx_base.specs.Mode.{depth_bits}
use Rattle.dpx_buffer.specs.declared.line_buffer.LineBuffer.TheInside.{Inside}
use Rattle.dpx_buffer.specs.Buffer.{BufferState, Reached}
use Rattle.dpx_buffer.specs.Seen.{depth_in, lanes_in}

abbrev pub state_of : Inside → BufferState
state_of a = record { plan = a.plan; lanes = lanes_in a.lanes; group = a.group; column = a.column }

pub record IsInside (a : Inside) : Type 0 where
  pub depth : depth_in a.lanes ≡ depth_bits a.plan.mode.depth
  pub reached : Reached (state_of a)
