use Rattle.std.proofs.Common.{◌≡◌, ◌+◌, ◌*◌, ◌<◌, length, get_or, subst, arith}
use Rattle.std.proofs.lemmas.List.{get_or_read}
use Rattle.qc_cert.proofs.PieceTables.{piece_small}
use Rattle.qc_cert.proofs.Tables.{row_at}
use Rattle.qc_cert.specs.Vocabulary.{IsRow, no_row, piece}
use Rattle.qc_cert.proofs.blocks.Block.kept.Goals as goal

pub returns : goal.returns
returns c =
    let some = piece c.args.out c.args.number in
    let place = c.args.number * 16 + c.piece.result in
    let rows = c.self.inside.rows.items in
    let at : place ≡ c.args.number * 16 + some = omega (arith, c.piece.ensures) in
    let within : place < length rows = omega
    (arith, at, piece_small c.args.out c.args.number, c.requires, c.self.invariant.all) in
    let is : c.index.result.now ≡ get_or rows place no_row =
    get_or_read rows place c.index.result.now within c.index.ensures no_row in
    subst (λ sets. IsRow sets c.args.number some c.index.result.now) c.self.view_is
    (row_at c.self.inside.sets.items rows c.args.number some place c.index.result.now
    c.self.invariant.told c.self.invariant.all c.requires (piece_small c.args.out c.args.number) at is)
