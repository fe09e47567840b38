pub mod UntilLaws
mod OneVertex
