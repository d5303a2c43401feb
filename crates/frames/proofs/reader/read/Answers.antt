use Rattle.std.proofs.Common.{◌+◌, ◌*◌, ◌≤◌, length, sym, arith, rules}
use Rattle.frames.proofs.Shapes.{shape_within}
use Rattle.frames.proofs.reader.read.Given
use Rattle.frames.proofs.reader.read.Goals as goal

-- the frame lies within the bytes
within : (g : Given.Over) (c : goal.In_ok-fields g) → 24 + 16 * c.in_ok-fields.fields.count ≤ length c.args.bytes.now
within g c = shape_within c.args.limit (length c.args.bytes.now) c.in_ok-header.header c.in_ok-fields.fields (sym c.in_ok-fields.ensures)

pub overflow_mul-part : goal.overflow_mul-part
overflow_mul-part g c = omega (arith, within g c)

pub overflow_add-part : goal.overflow_add-part
overflow_add-part g c = omega (arith, within g c)

pub slice_bounds-part-end : goal.slice_bounds-part-end
slice_bounds-part-end g c = let fits = within g c in search rules
