pub mod Humidity
