pub mod LentLaws
pub mod InterfaceLaws
pub mod CallLaws
pub mod RoomLaws
pub mod SizedLaws
pub mod InTurnLaws
pub mod ShownLaws
