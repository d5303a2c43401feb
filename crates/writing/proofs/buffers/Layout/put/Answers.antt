use Rattle.std.proofs.Common.{◌≡◌, ℕ, ◌+◌, ◌-◌, ◌*◌, List, ◌++◌, length, replicate, ap, ◌∙◌}
use Rattle.frames.specs.Letters.{header_bytes}
use Rattle.writing.proofs.Layers.{frame_laid}
use Rattle.writing.proofs.buffers.Layout.put.Goals as goal

pub returns-clause-buffer : goal.returns-clause-buffer
returns-clause-buffer g c =
    let out : List ℕ = c.args.out.now in
    let n : ℕ = 16 * c.args.self.fields.count in
    let part : List ℕ = g.P.Part.bytes c.args.self.part in
    let header : c.header.result ≡ header_bytes c.args.self.fields = c.header.ensures in
    frame_laid out c.put.new.out c.put_part.new.out c.clear.new.out c.header.result part n
    (ap length header) c.args.self.whole c.requires c.put.ensures c.put_part.ensures c.clear.ensures
    ∙ ap (λ (h : List ℕ). (h ++ part) ++ replicate (length out - (24 + n)) 0) header
