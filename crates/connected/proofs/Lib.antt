pub mod ConnectedLaws
