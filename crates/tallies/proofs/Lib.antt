pub mod RaisesLaws
