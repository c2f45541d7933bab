use Rattle.std.specs.Prelude.{option_copied}
use Rattle.std.proofs.Common.{◌<◌, [], arith}
use Rattle.qc_decl.specs.Vocabulary.{controller}
use Rattle.qc_pass.specs.Vocabulary.{number, seen}
use Rattle.qc_process.specs.Vocabulary.{Goes, IsOnDisk}
use Rattle.qc_node.proofs.Settling.{called_one, goes_now, known_on_disk}
use Rattle.qc_node.proofs.settle.settle_one.Goals as goal

pub returns-clause-one : goal.returns-clause-one
returns-clause-one g c =
    let decl = g.N.RunName.declaration in
    let tells = g.N.RunName.tells in
    let now = c.call.new.self.history in
    let p = c.cell.inside.pass in
    let q = c.call.new.pass in
    let told = g.K.D.Disk.told c.into_disk.result in
    let disk = g.K.D.Disk.faults c.into_disk.result in
    let goes : Goes (number p) (seen p) [] now =
    goes_now tells decl c.args.roll.now.history now c.args.roll.now.rooms c.call.new.self.rooms p q
    c.call.ensures.history c.call.ensures.saw c.call.ensures.seen c.call.ensures.first c.call.ensures.called in
    let low : number p < controller decl = omega (arith, c.cell.invariant.is_actor) in
    let on : IsOnDisk tells decl (number p) now told disk =
    known_on_disk tells decl now (number p) (seen p) c.cell.inside.process goes told disk
    (c.into_disk.ensures.stored tells decl (number p) now) (c.into_disk.ensures.on_disk tells decl (number p) now)
    c.cell.inside.given_up c.cell.invariant.known in
    called_one tells decl c.args.roll.now.history now c.args.roll.now.rooms c.call.new.self.rooms p q
    c.call.ensures.history c.call.ensures.saw c.call.ensures.seen c.call.ensures.first c.call.ensures.called
    (option_copied c.args.dir) c.number-actor.result c.number-actor.ensures low told disk on
    (g.K.Rack.faults c.args.rack.now)
    (g.K.Rack.faults c.keep.new.self) c.keep.ensures.kept (g.K.Rack.places c.args.rack.now)
    (g.K.Rack.places c.keep.new.self) c.keep.ensures.put
