pub mod Asked
pub mod BatchUnderWay
pub mod EachAnswered
pub mod FirstTold
pub mod MoveAnswered
pub mod RoomFilled
pub mod Told
