-- The laws of a logged run after the steps for which its log has room.
pub mod StopLaws
