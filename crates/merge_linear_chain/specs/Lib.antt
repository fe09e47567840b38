pub mod Zip
