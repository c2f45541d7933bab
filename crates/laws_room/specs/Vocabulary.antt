-- What proofs, and other crates, name of this crate's definitions.
pub use Rattle.laws_room.specs.Asked.{commands_of, dos_in, dos_of, is_do}
pub use Rattle.laws_room.specs.Plain.{IsPlain, MovesNone}
pub use Rattle.laws_room.specs.Room.{HasRoom}
pub use Rattle.laws_room.specs.Scripts.{asks, doubled, one_site, small, transaction}
