use Rattle.qc_outside.proofs.rot_rack.RotRackDiskDisk.write_at.Goals as goal

pub returns-in-Rot-clause-room : goal.returns-in-Rot-clause-room
returns-in-Rot-clause-room c = rw c.in-Rot.is c.write_at.ensures.room
